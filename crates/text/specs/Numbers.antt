-- How numbers are written. Document 01, "Net text (added, house format)": "Decimals have no leading zero"; "floats are 16 lower-case hexadecimal
-- digits of their bits".
use Rattle.std.specs.Prelude.{ℕ, zero, suc, ◌+◌, ◌/◌, ◌%◌, cond, [], ◌∷◌, ◌++◌, ltb, Float}
use Rattle.std.specs.Float.{binary64}
use Rattle.std.specs.Float.Ieee.{to_bits}
use Rattle.text.specs.Text.{Bytes}

-- `0` to `9`, then `a` to `f`
abbrev pub digit : ℕ → ℕ
digit d = cond (ltb d 10) (48 + d) (87 + d)

-- the k lowest digits of n to a base, the highest of them first
abbrev pub low_digits : ℕ → ℕ → ℕ → Bytes
low_digits base zero n = []
low_digits base (suc k) n = low_digits base k (n / base) ++ (digit (n % base) ∷ [])

-- the decimal digits of n with no leading zero, and none for 0. k counts down to bound the recursion: n itself is enough.
abbrev pub leading_digits : ℕ → ℕ → Bytes
leading_digits zero n = []
leading_digits (suc k) zero = []
leading_digits (suc k) (suc n) = leading_digits k (suc n / 10) ++ (digit (suc n % 10) ∷ [])

-- a decimal: its last digit, also for 0, behind the digits of the tenth
abbrev pub decimal_text : ℕ → Bytes
decimal_text n = leading_digits n (n / 10) ++ (digit (n % 10) ∷ [])

-- the k lowest hexadecimal digits
abbrev pub hex_digits : ℕ → ℕ → Bytes
hex_digits = low_digits 16

-- A float by its bits. There is one NaN here, with no sign and no payload: it is written 7ff8000000000000.
abbrev pub float_text : Float → Bytes
float_text x = hex_digits 16 (to_bits binary64 x)
