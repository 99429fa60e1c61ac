-- The slots of a transition stand on places of the net, and what is taken or put is so only where a slot is. Assumes nothing.
use Prim.Native.Nat.{ℕ, zero, suc, ◌+◌, ◌*◌, ◌≤◌, ◌<◌}
use Rattle.net.specs.declared.Net.{Net as NetRecord}
use mathlib.Core.Path.{◌≡◌, refl, ap, ◌∙◌}
use mathlib.Core.Bool.{Bool, true, false, ◌&&◌, true≢false}
use mathlib.Core.List.{List, [], ◌∷◌}
use native.Mathlib.Omega.{arith}
use lib.Dec.{eqb, leb}
use lib.ListN.{get_or}
use borrow.Author.Tests.{ne_eqb}
use Rattle.net.specs.Net.{Arc, Take, pick, amount, moved, taken_by}
use Rattle.net.specs.Tests.{any}
use Rattle.net.specs.Readable.{Slot, slots, is_put}
use Rattle.net.proofs.Slots.{or_first, or_second, or_neither, not_first, not_second}
use Rattle.engine.specs.Engine.{Below, Tidy}
use Rattle.engine.proofs.Arcs.{ap_pick, on_bool}
use Rattle.index.specs.Slots.{put_in, taken_in}

-- ---- within the tables

module _ (n : NetRecord) (t : Tidy n) where
  pub slots_fit : (j : ℕ) → j < n.transitions → 16 * j + get_or n.arcs j 0 ≤ 1024
  slots_fit j h = omega (arith, t.transitions, t.arcs j)

  pub places_fit : Below 32 n.place
  places_fit a = omega (arith, t.places, t.place a)

-- ---- on places

-- each is on one of the first k places
abbrev pub EachBelow : ℕ → List Slot → Type 0
EachBelow k [] = Unit
EachBelow k (l ∷ ls) = (l.place < k) × EachBelow k ls

pub each_below : (k : ℕ) (kind place weight : List ℕ) → Below k place → (a n : ℕ) → EachBelow k (slots kind place weight a n)
each_below k kind place weight h a zero = tt
each_below k kind place weight h a (suc n) = (h a, each_below k kind place weight h (a + 1) n)

-- a slot on place p, and a put there
abbrev pub on_place : ℕ → Slot → Bool
on_place p l = eqb l.place p

abbrev pub put_on : ℕ → Slot → Bool
put_on p l = eqb l.place p && is_put l.kind

pub none_on : (k p : ℕ) (ls : List Slot) → EachBelow k ls → k ≤ p → any (on_place p) ls ≡ false
none_on k p [] h g = refl
none_on k p (l ∷ ls) h g = or_neither (ne_eqb l.place p (λ z. apart z h.0)) (none_on k p ls h.1 g)
  where
    apart : l.place ≡ p → l.place < k → ⊥
    apart z b = omega arith

-- a sum over the slots of a kind is not changed by a slot on another place, or of another kind
still : (b e : Bool) (w x : ℕ) → (e && b) ≡ false → pick b (pick e w 0 + x) x ≡ x
still true true w x h = absurd (true≢false h)
still true false w x h = omega arith
still false e w x h = refl

put_still : (p : ℕ) (l : Slot) (ls : List Slot) → put_on p l ≡ false → put_in (l ∷ ls) p ≡ put_in ls p
put_still p l ls h = ap_pick (λ (xs : List Arc). moved xs p) (is_put l.kind) _ _ ∙ still (is_put l.kind) (eqb l.place p) (amount l.weight) (put_in ls p) h

taken_still : (p : ℕ) (l : Slot) (ls : List Slot) → (on_place p l && leb l.kind 1) ≡ false → taken_in (l ∷ ls) p ≡ taken_in ls p
taken_still p l ls h = ap_pick (λ (xs : List Take). taken_by xs p) (leb l.kind 1) _ _ ∙ still (leb l.kind 1) (eqb l.place p) (amount l.weight) (taken_in ls p) h

pub nothing_moved : (p : ℕ) (ls : List Slot) → any (on_place p) ls ≡ false → (taken_in ls p ≡ 0) × (put_in ls p ≡ 0)
nothing_moved p [] h = (refl, refl)
nothing_moved p (l ∷ ls) h =
    let e : on_place p l ≡ false = not_first (on_place p l) (any (on_place p) ls) h in
    let w = nothing_moved p ls (not_second (on_place p l) (any (on_place p) ls) h) in
    (taken_still p l ls (ap (λ (b : Bool). b && leb l.kind 1) e) ∙ w.0, put_still p l ls (ap (λ (b : Bool). b && is_put l.kind) e) ∙ w.1)

-- something is put only where a put is
pub put_some : (p : ℕ) (ls : List Slot) → 0 < put_in ls p → any (put_on p) ls ≡ true
put_some p [] h = absurd (omega arith)
put_some p (l ∷ ls) h =
    on_bool (put_on p l)
    (λ e. or_first (any (put_on p) ls) e)
    (λ e. or_second (put_on p l) (put_some p ls (omega (arith, put_still p l ls e))))
