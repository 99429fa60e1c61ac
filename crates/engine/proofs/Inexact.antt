-- A test that only kinetic takes pass, slot by slot; and inexact binomials by it. Assumes nothing.
use Prim.Native.Nat.{ℕ, zero, suc, ◌+◌, ◌-◌, ◌*◌, ◌≤◌, ◌<◌}
use mathlib.Core.Path.{◌≡◌, refl, sym, ap, ◌∙◌}
use mathlib.Core.Bool.{Bool, false, ◌&&◌, ◌||◌, not}
use mathlib.Core.List.{List, ◌∷◌}
use native.Mathlib.Omega.{arith}
use lib.Dec.{eqb, leb, ltb}
use lib.ListN.{get_or}
use borrow.Author.Tests.{leb-false, ne_eqb}
use Rattle.net.specs.declared.Net.{Net as NetRecord}
use Rattle.net.specs.Net.{Take, amount}
use Rattle.net.specs.Tests.{any}
use Rattle.net.specs.Readable.{Slot, slot_at, slots, takes_of, transition}
use Rattle.rules.specs.Exact.{exact_ways, some_inexact}
use Rattle.engine.specs.Engine.{Below, marking}
use Rattle.engine.proofs.Arcs.{ap_pick, on_bool, slots_step, slots_end, span, slots_of_lem}
use Rattle.engine.proofs.Marks.{held_marking}
use Rattle.engine.proofs.Factors.{pick_true, pick_false}

-- ---- a test that only kinetic takes pass, by place and weight

abbrev pub kinetic : (ℕ → ℕ → Bool) → Take → Bool
kinetic g k = k.kinetic && g k.place k.weight

module _ (g : ℕ → ℕ → Bool) where
  kinetic_slot_lem : (l : Slot) (ls : List Slot)
      → any (kinetic g) (takes_of (l ∷ ls)) ≡ ((eqb l.kind 0 && g l.place l.weight) || any (kinetic g) (takes_of ls))
  kinetic_slot_lem l ls =
      ap_pick (any (kinetic g)) (leb l.kind 1) _ _
      ∙ on_bool (leb l.kind 1)
      (λ e. pick_true (leb l.kind 1) _ _ e)
      (λ e.
      let h = leb-false l.kind 1 e in
      pick_false (leb l.kind 1) _ _ e
      ∙ sym (ap (λ (b : Bool). (b && g l.place l.weight) || any (kinetic g) (takes_of ls)) (ne_eqb l.kind 0 (λ d. omega arith))))

  -- one turn of a loop over slots, at slot a, and its end, where t says it of all
  module _ (k p w : List ℕ) (a e : ℕ) {t : Bool} (inv : any (kinetic g) (takes_of (slots k p w a (e - a))) ≡ t) where
    pub kinetic_turn : a < e
        → t ≡ ((eqb (get_or k a 0) 0 && g (get_or p a 0) (get_or w a 0)) || any (kinetic g) (takes_of (slots k p w (a + 1) (e - (a + 1)))))
    kinetic_turn h =
        sym inv ∙ ap (λ (ls : List Slot). any (kinetic g) (takes_of ls)) (slots_step k p w a e h) ∙ kinetic_slot_lem (slot_at k p w a) (slots k p w (a + 1) (e - (a + 1)))

    pub kinetic_end : e ≤ a → false ≡ t
    kinetic_end h = sym (ap (λ (ls : List Slot). any (kinetic g) (takes_of ls)) (slots_end k p w a e h)) ∙ inv

-- ---- inexact binomials

-- whether that of so many tokens of place p is, at these counts
abbrev pub off : List ℕ → ℕ → ℕ → Bool
off counts p w = not (exact_ways (get_or counts p 0) (amount w))

-- the marking is as good as the counts: the places of the slots stand in it
module _ (places : ℕ) (counts k p w : List ℕ) (b : Below places p) where
  off_marking : (n a : ℕ) → any (kinetic (off counts)) (takes_of (slots k p w a n)) ≡ some_inexact (marking places counts) (takes_of (slots k p w a n))
  off_marking zero a = refl
  off_marking (suc n) a =
      let ls = slots k p w (a + 1) n in
      let l = slot_at k p w a in
      kinetic_slot_lem (off counts) l ls
      ∙ ap (λ (x : Bool). (eqb l.kind 0 && off counts l.place l.weight) || x) (off_marking n (a + 1))
      ∙ ap (λ (c : ℕ). (eqb l.kind 0 && not (exact_ways c (amount l.weight))) || some_inexact (marking places counts) (takes_of ls))
      (sym (held_marking places counts l.place (b a)))
      ∙ sym (kinetic_slot_lem (off (marking places counts)) l ls)

module _ (n : NetRecord) (counts : List ℕ) (b : Below n.places n.place) (j : ℕ) where
  pub off_all : any (kinetic (off counts)) (takes_of (span n j)) ≡ some_inexact (marking n.places counts) (transition n j).takes
  off_all =
      ap (λ (ls : List Slot). any (kinetic (off counts)) (takes_of ls)) (slots_of_lem n j)
      ∙ off_marking n.places counts n.kind n.place n.weight b (get_or n.arcs j 0) (16 * j)

-- a weight of 0 counts as 1
pub several : (w : ℕ) → ltb 1 w ≡ ltb 1 (amount w)
several zero = refl
several (suc w) = refl
