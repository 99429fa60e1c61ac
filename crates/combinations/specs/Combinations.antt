-- `combinations`: how many ways there are to choose w of m, as a float, and whether that float is exact. Document 01, "000" and "Combinations." among the
-- turn-downs; document 02, order 6. Definitions only.
use Rattle.std.specs.Prelude.{ℕ, zero, suc, ◌+◌, ◌^◌, Bool, true, false, ◌||◌, cond, ℤ, pos, ◌-ℤ◌, nat_abs, Float, Option, Some, None}
use Rattle.std.specs.Int.Signed.{lt_z, le_z}
use Rattle.std.specs.Float.{binary64}
use Rattle.std.specs.Float.Ieee.{of_int, mul, div}
use Rattle.refusals.specs as Refusal
use Rattle.floats.specs.{float}
pub use Rattle.floats.specs.{zero64, one64}
use Rattle.combinations.specs.Binomial.{exact}
use Rattle.combinations.specs.declared.Ways.{Ways}

-- ---- the answer

-- a float and whether it is exact, or the number of a refusal
pub data Answer : Type 0 where
  value : Float → Bool → Answer
  refused : ℕ → Answer

-- what an answer says of its float; a refusal says nothing of one
abbrev pub as_flag : Answer → Bool
as_flag (value x e) = e
as_flag (refused c) = false

-- the program's float and flag
abbrev pub flagged : Ways → Answer
flagged r = value r.value r.exact

-- what the program's answer says: where there is none, it is refused
abbrev pub meaning : Option Ways → Answer
meaning (Some r) = flagged r
meaning None = refused Refusal.outside_domain

-- ---- the product

-- "multiply and divide per factor": times factor i, then over i + 1
abbrev pub with_factor : Float → Float → ℕ → Float
with_factor r x i = div binary64 (mul binary64 r x) (float (i + 1))

-- from 1, with the first w factors
abbrev pub product : (ℕ → Float) → ℕ → Float
product factor zero = one64
product factor (suc i) = with_factor (product factor i) (factor i) i

-- factor i is m - i, a whole number as a float
abbrev pub whole_factor : ℤ → ℕ → Float
whole_factor m i = of_int binary64 (m -ℤ pos i)

-- ---- the answer to m and w

-- "4 if w > 16"
abbrev pub too_many : ℤ → Bool
too_many w = lt_z (pos 16) w

-- "or in the integer form m > 2^53"
abbrev pub too_large : ℤ → Bool
too_large m = lt_z (pos (2 ^ 53)) m

-- the product of w factors, and "whether its float equals the whole-number binomial exactly": the last float alone decides, not the way to it
abbrev pub counted : ℕ → ℕ → Answer
counted m w = let x = product (whole_factor (pos m)) w in value x (exact x m w)

-- "w ≤ 0 gives 1; then m < w gives 0;" both "count as exact"; then the refusal, which has no flag; "then multiply and divide per factor"
abbrev pub combinations : ℤ → ℤ → Answer
combinations m w =
    cond (le_z w (pos 0)) (value one64 true)
    (cond (lt_z m w) (value zero64 true)
    (cond (too_many w || too_large m) (refused Refusal.outside_domain)
    (counted (nat_abs m) (nat_abs w))))
