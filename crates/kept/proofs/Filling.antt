-- A table that is filled one entry a turn: what it is to hold at i, it holds at every i before j. Assumes nothing.
use Prim.Native.Nat.{ℕ, ◌+◌, ◌<◌}
use mathlib.Core.Path.{◌≡◌, ◌∙◌, subst⁻¹}
use mathlib.Core.List.{List}
use native.Mathlib.Omega.{arith}
use native.Mathlib.Nat.{ne_of_lt}
use lib.ListN.{length, get_or, set, length-set}
use lib.Seq.{get_or-set_same, get_or-set_other}
use borrow.Author.Count.{below_more}

module _ {A : Type 0} (d : A) (P : ℕ → A → Type 0) where
  pub record Filling (xs : List A) (j : ℕ) : Type 0 where
    pub long : length xs ≡ 64
    pub each : (i : ℕ) → i < j → P i (get_or xs i d)

  pub filling_none : (xs : List A) → length xs ≡ 64 → Filling xs 0
  filling_none xs l = record { long = l; each = λ i h. absurd (omega arith) }

  pub filling_more : (xs : List A) (j : ℕ) → Filling xs j → j < 64 → (x : A) → P j x → Filling (set xs j x) (j + 1)
  filling_more xs j f h x p =
      record {
        long = length-set xs j x ∙ f.long;
        each = below_more (λ (i : ℕ). P i (get_or (set xs j x) i d)) j
            (λ i l. subst⁻¹ (P i) (get_or-set_other xs j i x d (ne_of_lt l)) (f.each i l))
            (subst⁻¹ (P j) (get_or-set_same xs j x d (omega (arith, f.long))) p);
      }
