-- The loops that mark transitions, bit by bit, and what their words say of a net. Assumes nothing.
use Prim.Native.Nat.{ℕ, ◌+◌, ◌≤◌, ◌<◌}
use Rattle.net.specs.declared.Net.{Net as NetRecord}
use mathlib.Core.Path.{◌≡◌, sym, ap, ◌∙◌}
use mathlib.Core.Bool.{Bool, ◌&&◌, ◌||◌}
use mathlib.Core.List.{List}
use native.Mathlib.Omega.{arith}
use native.Mathlib.Decide.{dec_lt}
use lib.Dec.{eqb, ltb}
use borrow.Author.Tests.{le-ltb}
use Rattle.words.specs.Bits.{bit}
use Rattle.words.proofs.Bits.{bit_none}
use Rattle.net.specs.Net.{Transition}
use Rattle.net.specs.Tests.{any}
use Rattle.net.specs.Readable.{Slot, takes_of, readable}
use Rattle.net.specs.Readable as Record
use Rattle.rules.specs.Moves.{transition}
use Rattle.engine.specs.Traits.{heavy, takes_several, Marks}
use Rattle.engine.proofs.Arcs.{span, slots_of_lem}
use Rattle.index.proofs.Fronts.{front, front_past, front_more}
use Rattle.engine.proofs.Sides.{transition_at}

-- ---- a loop that marks the numbers of which f holds, below j

module _ (f : ℕ → Bool) where
  pub record Marked (k word j : ℕ) : Type 0 where
    pub few : j ≤ k
    pub says : (i : ℕ) → bit word i ≡ front f j i

  pub marked_none : (k : ℕ) → Marked k 0 0
  marked_none k = record { few = omega arith; says = λ i. bit_none i ∙ sym (front_past f 0 i (omega arith)) }

  pub marked_more : (k word after j : ℕ) (on : Bool) → Marked k word j → j < k → on ≡ f j → ((i : ℕ) → bit after i ≡ (bit word i || (on && eqb i j)))
      → Marked k after (j + 1)
  marked_more k word after j on inv h e g =
      record { few = omega arith; says = λ i. g i ∙ (λ x. inv.says i x || (e x && eqb i j)) ∙ front_more f j i }

  pub marked_all : (k word j : ℕ) → Marked k word j → k ≤ j → (i : ℕ) → bit word i ≡ front f k i
  marked_all k word j inv h i = let e : j ≡ k = omega (arith, inv.few) in inv.says i ∙ ap (λ (x : ℕ). front f x i) e

-- ---- the transitions of a net

-- the word of those of which f holds, by the slots of each
pub net_marks : (n : NetRecord) (f : Transition → Bool) (word : ℕ) → ((i : ℕ) → bit word i ≡ front (λ (i : ℕ). f (Record.transition n i)) n.transitions i) → Marks n f word
net_marks n f word h i = h i ∙ at (dec_lt i n.transitions)
  where
    at : Dec (i < n.transitions) → front (λ (i : ℕ). f (Record.transition n i)) n.transitions i ≡ (ltb i n.transitions && f (transition (readable n) i))
    at (yes l) = ap (λ (t : Transition). ltb i n.transitions && f t) (sym (transition_at n i l))
    at (no l) =
        let z = le-ltb i n.transitions (omega arith) in
        ap (λ (b : Bool). b && f (Record.transition n i)) z ∙ sym (ap (λ (b : Bool). b && f (transition (readable n) i)) z)

-- what the slots of a transition say of it
pub several_slots : (n : NetRecord) (j : ℕ) (on : Bool) → on ≡ any heavy (takes_of (span n j)) → on ≡ takes_several (Record.transition n j)
several_slots n j on e = e ∙ ap (λ (ls : List Slot). any heavy (takes_of ls)) (slots_of_lem n j)
