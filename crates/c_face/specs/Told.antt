-- The answers of the two forms of combinations, told as a flag and numbers. Definitions only.
use Rattle.std.specs.Prelude.{ℕ, Bool, true, false, Float}
use Rattle.net.specs.Net.{pick}
use Rattle.combinations.specs.Combinations.{Answer, value, refused, zero64}
use Rattle.combinations.specs.Real as Real

-- ---- the integer form

-- whether it is a float
abbrev pub is_value : Answer → Bool
is_value (value x e) = true
is_value (refused n) = false

-- the float, or +0 for a refusal
abbrev pub or_zero : Answer → Float
or_zero (value x e) = x
or_zero (refused n) = zero64

-- 1 where the float is exact, and 0 where it is not or there is none
abbrev pub one_if_exact : Answer → ℕ
one_if_exact (value x e) = pick e 1 0
one_if_exact (refused n) = 0

-- ---- the real form

-- whether it is a float
abbrev pub is_real : Real.Answer → Bool
is_real (Real.value x) = true
is_real (Real.refused n) = false

-- the float, or +0 for a refusal
abbrev pub real_or_zero : Real.Answer → Float
real_or_zero (Real.value x) = x
real_or_zero (Real.refused n) = zero64
