-- The loop that lists one transition: what the words say, with what the slots that are left list, is the whole. Assumes nothing.
use Prim.Native.Nat.{ℕ, ◌+◌, ◌≤◌, ◌<◌}
use mathlib.Core.Path.{◌≡◌, refl, sym, ap, ◌∙◌}
use mathlib.Core.Bool.{Bool, true, false, ◌&&◌, ◌||◌, or-false, or_assoc, and-or_distrib_right}
use mathlib.Core.List.{List, ◌∷◌}
use native.Mathlib.Omega.{arith}
use lib.Dec.{eqb, ltb}
use lib.ListN.{length, get_or, set, length-set}
use lib.Seq.{get_or-set_same, get_or-set_other}
use borrow.Author.Tests.{eq-eqb, ne_eqb, eqb-true, eqb-false, lt-ltb}
use Rattle.words.specs.Bits.{bit}
use Rattle.net.specs.Tests.{any}
use Rattle.net.specs.Readable.{Slot, slot_at}
use Rattle.engine.proofs.Arcs.{slots_step, slots_end}
use Rattle.index.specs.Slots.{span, taken_in, put_in, lists, lists_for, Added}

-- one slot more: b, the word so far; o, the slot lists; e, the number is j; r, of the slots that are left
turn_there : (b o e r : Bool) → ((b || (o && e)) || (r && e)) ≡ (b || ((o || r) && e))
turn_there b o e r = or_assoc b (o && e) (r && e) ∙ ap (λ (c : Bool). b || c) (sym (and-or_distrib_right o r e))

-- ---- the loop

module _ (capacity kind place weight : List ℕ) (from end j : ℕ) where
  abbrev all : List Slot
  all = span kind place weight from end

  abbrev said : List ℕ → List Slot → ℕ → ℕ → Bool
  said words rest p i = bit (get_or words p 0) i || (any (lists_for capacity all p) rest && eqb i j)

  pub record Listing (before words : List ℕ) (a : ℕ) : Type 0 where
    pub long : length words ≡ 32
    pub whole : (p i : ℕ) → said words (span kind place weight a end) p i ≡ said before all p i

  pub listing_none : (before : List ℕ) → length before ≡ 32 → Listing before before from
  listing_none before l = record { long = l; whole = λ p i. refl }

  pub listing_more : (before words : List ℕ) (a w : ℕ) (on : Bool) → Listing before words a → a < end → get_or place a 0 < 32
      → on ≡ lists capacity all (get_or kind a 0) (get_or place a 0)
      → ((i : ℕ) → bit w i ≡ (bit (get_or words (get_or place a 0) 0) i || (on && eqb i j)))
      → Listing before (set words (get_or place a 0) w) (a + 1)
  listing_more before words a w on inv h q e f =
      record {
        long = length-set words here w ∙ inv.long;
        whole = λ p i. at p i (eqb here p) refl ∙ sym (ap (λ (ls : List Slot). said words ls p i) (slots_step kind place weight a end h)) ∙ inv.whole p i;
      }
    where
      here : ℕ
      here = get_or place a 0

      rest : List Slot
      rest = span kind place weight (a + 1) end

      at : (p i : ℕ) (c : Bool) → eqb here p ≡ c → said (set words here w) rest p i ≡ said words (slot_at kind place weight a ∷ rest) p i
      at p i true s =
          let r = any (lists_for capacity all p) rest in
          let z : here ≡ p = eqb-true here p s in
          let n : p < length words = omega (arith, inv.long) in
          let b : get_or (set words here w) p 0 ≡ w = ap (λ (x : ℕ). get_or (set words x w) p 0) z ∙ get_or-set_same words p w 0 n in
          let g : bit w i ≡ (bit (get_or words p 0) i || (on && eqb i j)) = f i ∙ ap (λ (x : ℕ). bit (get_or words x 0) i || (on && eqb i j)) z in
          ap (λ (x : ℕ). bit x i || (r && eqb i j)) b
          ∙ ap (λ (c : Bool). c || (r && eqb i j)) g
          ∙ turn_there (bit (get_or words p 0) i) on (eqb i j) r
          ∙ ap (λ (c : Bool). bit (get_or words p 0) i || ((c || r) && eqb i j)) e
          ∙ ap (λ (c : Bool). bit (get_or words p 0) i || (((c && lists capacity all (get_or kind a 0) here) || r) && eqb i j)) (sym s)
      at p i false s =
          let r = any (lists_for capacity all p) rest in
          let n = eqb-false here p s in
          let b : get_or (set words here w) p 0 ≡ get_or words p 0 = get_or-set_other words here p w 0 (λ x. n (sym x)) in
          ap (λ (x : ℕ). bit x i || (r && eqb i j)) b
          ∙ ap (λ (c : Bool). bit (get_or words p 0) i || (((c && lists capacity all (get_or kind a 0) here) || r) && eqb i j)) (sym s)

  pub listing_all : (before words : List ℕ) (a : ℕ) → Listing before words a → end ≤ a → Added capacity all j before words
  listing_all before words a inv h =
      record {
        long = inv.long;
        says = λ p i. sym (ap (λ (ls : List Slot). said words ls p i) (slots_end kind place weight a end h) ∙ or-false (bit (get_or words p 0) i)) ∙ inv.whole p i;
      }

-- ---- what a slot lists

module _ (capacity : List ℕ) (all : List Slot) (kind p : ℕ) where
  pub lists_arc : (kind ≡ 2 → ⊥) → true ≡ lists capacity all kind p
  lists_arc h = rw (ne_eqb kind 2 h)

  pub lists_free : kind ≡ 2 → get_or capacity p 0 ≡ 0 → false ≡ lists capacity all kind p
  lists_free h e = rw (eq-eqb kind 2 h, e)

  pub lists_put : kind ≡ 2 → 0 < get_or capacity p 0 → (taken put : ℕ) → taken ≡ taken_in all p → put ≡ put_in all p → ltb taken put ≡ lists capacity all kind p
  lists_put h e taken put t u = rw (eq-eqb kind 2 h, lt-ltb 0 (get_or capacity p 0) e, t, u)
