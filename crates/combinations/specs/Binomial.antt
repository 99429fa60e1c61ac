-- The binomial coefficient as a whole number, and when a float equals it. Document 02, order 6: "The integer form's combinations answer now also says
-- whether its float equals the whole-number binomial exactly". Definitions only.
use Rattle.std.specs.Prelude.{ℕ, zero, suc, ◌+◌, ◌-◌, ◌*◌, ◌/◌, Bool, false, pos, Float}
use Rattle.std.specs.Float.{fin}
use Rattle.std.specs.Float.Ieee.{eq}

-- m * (m - 1) * .. : w factors. Where m is below w, m - m is among them.
abbrev pub falling : ℕ → ℕ → ℕ
falling m zero = 1
falling m (suc i) = falling m i * (m - i)

-- 1 * 2 * .. * w
abbrev pub factorial : ℕ → ℕ
factorial zero = 1
factorial (suc i) = factorial i * (i + 1)

-- "the whole-number binomial": how many ways there are to choose w of m. The division leaves no rest, and Pascal's rule holds (Theorems, NoRest and Pascal).
abbrev pub binomial : ℕ → ℕ → ℕ
binomial m w = falling m w / factorial w

-- a whole number itself, for a float to be compared with: it is rounded to no format
abbrev pub whole : ℕ → Float
whole n = fin false n (pos 0)

-- "equals … exactly": x and the binomial are one value (Theorems, ExactIsValue). A NaN and an infinity equal no whole number.
abbrev pub exact : Float → ℕ → ℕ → Bool
exact x m w = eq x (whole (binomial m w))
