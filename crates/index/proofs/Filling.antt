-- The loop over the transitions: the words say what the transitions before j list. Assumes nothing.
use Prim.Native.Nat.{ℕ, ◌+◌, ◌≤◌, ◌<◌}
use Rattle.net.specs.declared.Net.{Net as NetRecord}
use mathlib.Core.Path.{◌≡◌, sym, ap, ◌∙◌}
use mathlib.Core.Bool.{Bool, ◌&&◌, ◌||◌}
use mathlib.Core.List.{List}
use native.Mathlib.Omega.{arith}
use native.Mathlib.Decide.{dec_lt}
use lib.Dec.{eqb}
use lib.ListN.{length, get_or, replicate, length-replicate}
use Rattle.words.specs.Bits.{bit}
use Rattle.words.proofs.Bits.{bit_none}
use Rattle.net.specs.Tests.{any}
use Rattle.net.specs.Readable.{Slot, slots_of, readable}
use Rattle.rules.specs.Index.{listed}
use Rattle.engine.specs.Engine.{Below}
use Rattle.engine.proofs.Arcs.{span, slots_of_lem}
use Rattle.engine.proofs.Lists.{each_zero}
use Rattle.index.specs.Slots.{lists_for, Added}
use Rattle.index.specs.Table.{Lists}
use Rattle.index.proofs.Fronts.{front, front_in, front_past, front_more}
use Rattle.index.proofs.ByPlace.{listed_slots, listed_past}

module _ (n : NetRecord) where
  -- whether the slots of transition i list it for place p
  abbrev lists : ℕ → ℕ → Bool
  lists p i = any (lists_for n.capacity (slots_of n i) p) (slots_of n i)

  pub record Filled (words : List ℕ) (j : ℕ) : Type 0 where
    pub long : length words ≡ 32
    pub few : j ≤ n.transitions
    pub says : (p i : ℕ) → bit (get_or words p 0) i ≡ front (lists p) j i

  pub filled_none : Filled (replicate 32 0) 0
  filled_none =
      record {
        long = length-replicate {A = ℕ} 32 0;
        few = omega arith;
        says = λ p i. each_zero (λ (w : ℕ). bit w i ≡ front (lists p) 0 i) 32 (bit_none i ∙ sym (front_past (lists p) 0 i (omega arith))) p;
      }

  pub filled_more : (words after : List ℕ) (j : ℕ) → Filled words j → j < n.transitions → Added n.capacity (span n j) j words after → Filled after (j + 1)
  filled_more words after j inv h a =
      record {
        long = a.long;
        few = omega arith;
        says = λ p i.
            a.says p i
            ∙ ap (λ (ls : List Slot). bit (get_or words p 0) i || (any (lists_for n.capacity ls p) ls && eqb i j)) (slots_of_lem n j)
            ∙ ap (λ (b : Bool). b || (lists p j && eqb i j)) (inv.says p i)
            ∙ front_more (lists p) j i;
      }

  pub filled_all : Below n.places n.place → (words : List ℕ) (j : ℕ) → Filled words j → n.transitions ≤ j → Lists (readable n) words
  filled_all low words j inv h = record { long = inv.long; says = λ p i. inv.says p i ∙ at p i (dec_lt i j) }
    where
      at : (p i : ℕ) → Dec (i < j) → front (lists p) j i ≡ listed (readable n) p i
      at p i (yes k) = front_in (lists p) j i k ∙ listed_slots n low p i (omega (arith, inv.few))
      at p i (no k) = front_past (lists p) j i (omega arith) ∙ sym (listed_past n p i (omega arith))
