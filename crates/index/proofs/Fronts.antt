-- A test of the numbers below j, as a loop over j finds it: of none, of one more, of all. Assumes nothing.
use Prim.Native.Nat.{ℕ, ◌+◌, ◌≤◌, ◌<◌}
use mathlib.Core.Path.{◌≡◌, refl, sym, ap, ◌∙◌}
use mathlib.Core.Bool.{Bool, true, false, ◌&&◌, ◌||◌, and-true, and-false, or-false}
use native.Mathlib.Omega.{arith}
use native.Mathlib.Decide.{dec_lt}
use lib.Dec.{eqb, ltb}
use borrow.Author.Tests.{eqb-true, eqb-false, lt-ltb, le-ltb}

module _ (f : ℕ → Bool) where
  abbrev pub front : ℕ → ℕ → Bool
  front j i = ltb i j && f i

  pub front_in : (j i : ℕ) → i < j → front j i ≡ f i
  front_in j i h = ap (λ (b : Bool). b && f i) (lt-ltb i j h)

  pub front_past : (j i : ℕ) → j ≤ i → front j i ≡ false
  front_past j i h = ap (λ (b : Bool). b && f i) (le-ltb i j h)

  pub front_more : (j i : ℕ) → (front j i || (f j && eqb i j)) ≡ front (j + 1) i
  front_more j i = at (eqb i j) refl
    where
      at : (c : Bool) → eqb i j ≡ c → (front j i || (f j && c)) ≡ front (j + 1) i
      at true e =
          let z : i ≡ j = eqb-true i j e in
          ap (λ (b : Bool). b || (f j && true)) (front_past j i (omega arith)) ∙ and-true (f j) ∙ ap f (sym z) ∙ sym (front_in (j + 1) i (omega arith))
      at false e = ap (λ (b : Bool). front j i || b) (and-false (f j)) ∙ or-false (front j i) ∙ next (dec_lt i j)
        where
          next : Dec (i < j) → front j i ≡ front (j + 1) i
          next (yes h) = front_in j i h ∙ sym (front_in (j + 1) i (omega arith))
          next (no h) = front_past j i (omega arith) ∙ sym (front_past (j + 1) i (beyond h (eqb-false i j e)))
            where
              beyond : (i < j → ⊥) → (i ≡ j → ⊥) → j + 1 ≤ i
              beyond h n = omega (arith, h, n)
