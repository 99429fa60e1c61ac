-- The net change of a transition, slot by slot: the takes and then the puts that are left, on top of what is worked so far, come to the whole; and the
-- table of all changes, cell by cell. Assumes nothing.
use Prim.Native.Nat.{ℕ, ◌+◌, ◌-◌, ◌≤◌, ◌<◌}
use mathlib.Core.Path.{◌≡◌, sym, ap, ◌∙◌}
use mathlib.Core.List.{List, ◌∷◌}
use native.Mathlib.Omega.{arith}
use lib.Dec.{eqb, leb}
use lib.ListN.{length, get_or, set}
use lib.Seq.{get_or-set_same, get_or-set_other}
use lib.Ieee.{Float, nan}
use borrow.Author.Tests.{eqb-true, eqb-false}
use Rattle.net.specs.declared.Net.{Net as NetRecord}
use Rattle.net.specs.Net.{zero64}
use Rattle.net.specs.Readable.{Slot, slot_at, slots, takes_of, arcs_of, is_put, transition}
use Rattle.net.proofs.Slots.{slots_step, slots_end}
use Rattle.sde.specs.Diffusion.{less_takes, plus_puts, change}
use Rattle.sde.specs.Slots.{less_slot, more_slot}
use Rattle.engine.proofs.Arcs.{ap_pick, on_bool, span, slots_of_lem}

less_slot_lem : (p : ℕ) (d : Float) (l : Slot) (ls : List Slot)
    → less_takes p d (takes_of (l ∷ ls)) ≡ less_takes p (less_slot d l.kind l.place l.weight p) (takes_of ls)
less_slot_lem p d l ls =
    ap_pick (less_takes p d) (leb l.kind 1) _ _
    ∙ sym (ap_pick (λ (y : Float). less_takes p y (takes_of ls)) (leb l.kind 1) _ d)

more_slot_lem : (p : ℕ) (d : Float) (l : Slot) (ls : List Slot)
    → plus_puts p d (arcs_of is_put (l ∷ ls)) ≡ plus_puts p (more_slot d l.kind l.place l.weight p) (arcs_of is_put ls)
more_slot_lem p d l ls =
    ap_pick (plus_puts p d) (is_put l.kind) _ _
    ∙ sym (ap_pick (λ (y : Float). plus_puts p y (arcs_of is_put ls)) (is_put l.kind) _ d)

-- one turn of a loop over slots, at slot a; and its end
module _ (k q w : List ℕ) (a e p : ℕ) (d : Float) where
  pub less_turn : a < e → (r : Float) → r ≡ less_slot d (get_or k a 0) (get_or q a 0) (get_or w a 0) p
      → less_takes p r (takes_of (slots k q w (a + 1) (e - (a + 1)))) ≡ less_takes p d (takes_of (slots k q w a (e - a)))
  less_turn h r y =
      let rest = slots k q w (a + 1) (e - (a + 1)) in
      ap (λ (x : Float). less_takes p x (takes_of rest)) y
      ∙ sym (ap (λ (ls : List Slot). less_takes p d (takes_of ls)) (slots_step k q w a e h) ∙ less_slot_lem p d (slot_at k q w a) rest)

  pub less_end : e ≤ a → d ≡ less_takes p d (takes_of (slots k q w a (e - a)))
  less_end h = sym (ap (λ (ls : List Slot). less_takes p d (takes_of ls)) (slots_end k q w a e h))

  pub more_turn : a < e → (r : Float) → r ≡ more_slot d (get_or k a 0) (get_or q a 0) (get_or w a 0) p
      → plus_puts p r (arcs_of is_put (slots k q w (a + 1) (e - (a + 1)))) ≡ plus_puts p d (arcs_of is_put (slots k q w a (e - a)))
  more_turn h r y =
      let rest = slots k q w (a + 1) (e - (a + 1)) in
      ap (λ (x : Float). plus_puts p x (arcs_of is_put rest)) y
      ∙ sym (ap (λ (ls : List Slot). plus_puts p d (arcs_of is_put ls)) (slots_step k q w a e h) ∙ more_slot_lem p d (slot_at k q w a) rest)

  pub more_end : e ≤ a → d ≡ plus_puts p d (arcs_of is_put (slots k q w a (e - a)))
  more_end h = sym (ap (λ (ls : List Slot). plus_puts p d (arcs_of is_put ls)) (slots_end k q w a e h))

-- the whole change of transition j at place p
pub change_made : (n : NetRecord) (j p : ℕ) {d r : Float} → d ≡ less_takes p zero64 (takes_of (span n j)) → r ≡ plus_puts p d (arcs_of is_put (span n j))
    → r ≡ change (transition n j) p
change_made n j p e f =
    f
    ∙ ap (λ (x : Float). plus_puts p x (arcs_of is_put (span n j))) e
    ∙ ap (λ (ls : List Slot). plus_puts p (less_takes p zero64 (takes_of ls)) (arcs_of is_put ls)) (slots_of_lem n j)

-- ---- the table

-- one cell more, of any table worked out from the first cell on
pub cells_more : (f : ℕ → Float) (xs : List Float) (c : ℕ) (v : Float) → c < length xs → v ≡ f c → ((b : ℕ) → b < c → get_or xs b nan ≡ f b)
    → (b : ℕ) → b < c + 1 → get_or (set xs c v) b nan ≡ f b
cells_more f xs c v h e all b g =
    on_bool (eqb b c)
    (λ y.
    let s : b ≡ c = eqb-true b c y in
    ap (λ (x : ℕ). get_or (set xs c v) x nan) s ∙ get_or-set_same xs c v nan h ∙ e ∙ sym (ap f s))
    (λ y.
    let s = eqb-false b c y in
    get_or-set_other xs c b v nan s ∙ all b (omega (arith, s)))
