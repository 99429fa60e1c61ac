-- Arcs counted by their kind, slot by slot and transition by transition: what is left to count, on top of what is counted, is the whole; and the whole
-- is what the definitions count over the readable net. Assumes nothing.
use Prim.Native.Nat.{ℕ, zero, suc, ◌+◌, ◌-◌, ◌*◌, ◌≤◌, ◌<◌}
use mathlib.Core.Path.{◌≡◌, refl, sym, ap, ◌∙◌}
use mathlib.Core.Bool.{Bool, true, false}
use mathlib.Core.List.{List, [], ◌∷◌}
use native.Mathlib.Omega.{arith}
use native.Mathlib.Numerals.{add-one}
use lib.Dec.{eqb, leb}
use lib.ListN.{length, get_or}
use borrow.Author.Tests.{lt-leb, ne_eqb}
use Rattle.net.specs.declared.Net.{Net as NetRecord}
use Rattle.net.specs.Net.{Arc, Take, Transition, pick}
use Rattle.net.specs.Sound.{Sound}
use Rattle.net.specs.Readable.{Slot, slots, slots_of, takes_of, arcs_of, is_read, is_block, transition, transitions_from}
use Rattle.net.proofs.Slots.{slots_step, slots_end}
use Rattle.gates.specs.Gated.{over, reads_of, inhibitors_of, non_kinetic, non_kinetic_of}
use Rattle.gates.specs.Slots.{one_if, count_if, count_from}

-- ---- slot by slot

pub one_most : (b : Bool) → one_if b ≤ 1
one_most true = omega arith
one_most false = omega arith

module _ (f : ℕ → Bool) (k p w : List ℕ) where
  pub count_most : (a n : ℕ) → count_if f (slots k p w a n) ≤ n
  count_most a zero = omega arith
  count_most a (suc n) = omega (arith, one_most (f (get_or k a 0)), count_most (a + 1) n)

  pub count_turn : (a e : ℕ) → a < e
      → count_if f (slots k p w a (e - a)) ≡ one_if (f (get_or k a 0)) + count_if f (slots k p w (a + 1) (e - (a + 1)))
  count_turn a e h = ap (count_if f) (slots_step k p w a e h)

  pub count_end : (a e : ℕ) → e ≤ a → count_if f (slots k p w a (e - a)) ≡ 0
  count_end a e h = ap (count_if f) (slots_end k p w a e h)

-- ---- transition by transition

module _ (f : ℕ → Bool) (n : NetRecord) where
  -- the slots of transition j, by their end
  pub count_span : (j : ℕ)
      → count_if f (slots n.kind n.place n.weight (16 * j) ((16 * j + get_or n.arcs j 0) - 16 * j)) ≡ count_if f (slots_of n j)
  count_span j =
      let e : (16 * j + get_or n.arcs j 0) - 16 * j ≡ get_or n.arcs j 0 = omega arith in
      ap (λ (m : ℕ). count_if f (slots n.kind n.place n.weight (16 * j) m)) e

  from_most : (j k : ℕ) → ((i : ℕ) → i < j + k → get_or n.arcs i 0 ≤ 16) → count_from f n j k ≤ 16 * k
  from_most j zero h = omega arith
  from_most j (suc k) h =
      let rest = from_most (suc j) k (λ i g. h i (omega arith)) in
      omega (arith, h j (omega arith), count_most f n.kind n.place n.weight (16 * j) (get_or n.arcs j 0))

  pub all_most : Sound n → count_from f n 0 n.transitions ≤ 1024
  all_most s =
      let m = from_most 0 n.transitions (λ i g. s.arcs i (omega arith)) in
      omega (arith, s.transitions)

  pub from_turn : (j e : ℕ) → j < e → count_from f n j (e - j) ≡ count_if f (slots_of n j) + count_from f n (j + 1) (e - (j + 1))
  from_turn j e h =
      let d : e - j ≡ suc (e - (j + 1)) = omega arith in
      ap (count_from f n j) d ∙ ap (λ (i : ℕ). count_if f (slots_of n j) + count_from f n i (e - (j + 1))) (sym (add-one j))

  pub from_whole : (e : ℕ) → 0 + count_from f n 0 (e - 0) ≡ count_from f n 0 e
  from_whole e =
      let d : e - 0 ≡ e = omega arith in
      omega (arith, ap (count_from f n 0) d)

  pub from_end : (j e : ℕ) → e ≤ j → count_from f n j (e - j) ≡ 0
  from_end j e h =
      let d : e - j ≡ 0 = omega arith in
      ap (count_from f n j) d

-- ---- the counts of the definitions

length_arcs : (f : ℕ → Bool) (ls : List Slot) → count_if f ls ≡ length (arcs_of f ls)
length_arcs f [] = refl
length_arcs f (l ∷ ls) = one (f l.kind) (record { place = l.place; weight = l.weight }) (arcs_of f ls) (length_arcs f ls)
  where
    one : (b : Bool) (x : Arc) (xs : List Arc) {m : ℕ} → m ≡ length xs → one_if b + m ≡ length (pick b (x ∷ xs) xs)
    one true x xs e = omega arith
    one false x xs e = omega arith

non_kinetic_lem : (ls : List Slot) → count_if (λ (k : ℕ). eqb k 1) ls ≡ non_kinetic (takes_of ls)
non_kinetic_lem [] = refl
non_kinetic_lem (l ∷ ls) = one l.kind l.place l.weight (takes_of ls) (non_kinetic_lem ls)
  where
    one : (k p w : ℕ) (xs : List Take) {m : ℕ} → m ≡ non_kinetic xs
        → one_if (eqb k 1) + m ≡ non_kinetic (pick (leb k 1) (record { place = p; weight = w; kinetic = eqb k 0 } ∷ xs) xs)
    one zero p w xs e = omega arith
    one (suc zero) p w xs e = omega arith
    one (suc (suc k)) p w xs e = simp (lt-leb (suc (suc k)) 1 (omega arith), ne_eqb (suc (suc k)) 1 (λ z. omega arith)) (omega arith)

module _ (n : NetRecord) where
  each_over : (f : ℕ → Bool) (g : Transition → ℕ) → ((j : ℕ) → count_if f (slots_of n j) ≡ g (transition n j))
      → (j k : ℕ) → count_from f n j k ≡ over g (transitions_from n j k)
  each_over f g e j zero = refl
  each_over f g e j (suc k) = λ i. e j i + each_over f g e (suc j) k i

  pub reads_all : (k : ℕ) → count_from is_read n 0 k ≡ over reads_of (transitions_from n 0 k)
  reads_all = each_over is_read reads_of (λ j. length_arcs is_read (slots_of n j)) 0

  pub inhibitors_all : (k : ℕ) → count_from is_block n 0 k ≡ over inhibitors_of (transitions_from n 0 k)
  inhibitors_all = each_over is_block inhibitors_of (λ j. length_arcs is_block (slots_of n j)) 0

  pub non_kinetic_all : (k : ℕ) → count_from (λ (x : ℕ). eqb x 1) n 0 k ≡ over non_kinetic_of (transitions_from n 0 k)
  non_kinetic_all = each_over (λ (x : ℕ). eqb x 1) non_kinetic_of (λ j. non_kinetic_lem (slots_of n j)) 0
