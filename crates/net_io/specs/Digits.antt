-- What a number in a program's arguments is: one decimal digit or more and nothing else, leading zeros allowed. Definitions only.
use Rattle.std.specs.Prelude.{ℕ, ◌+◌, ◌-◌, ◌*◌, Bool, true, ◌&&◌, cond, List, [], ◌∷◌, leb, ltb, length, Option, Some, None}

-- the bytes `0` to `9`
abbrev pub is_digit_byte : ℕ → Bool
is_digit_byte b = leb 48 b && leb b 57

abbrev pub every_digit : List ℕ → Bool
every_digit [] = true
every_digit (b ∷ bs) = is_digit_byte b && every_digit bs

abbrev pub is_number : List ℕ → Bool
is_number bs = ltb 0 (length bs) && every_digit bs

-- the value of digits behind those that come to v
abbrev pub value_from : ℕ → List ℕ → ℕ
value_from v [] = v
value_from v (b ∷ bs) = value_from (v * 10 + (b - 48)) bs

-- 10^19
abbrev pub past : ℕ
past = 10_000_000_000_000_000_000

-- as a program has it: from 10^19 on, past every place, count, weight and number of turns, it is the largest of 64 bits
abbrev pub held : ℕ → ℕ
held v = cond (ltb v past) v 0xFFFF_FFFF_FFFF_FFFF

-- the number that a word is, as a program has it, if it is one
abbrev pub number : List ℕ → Option ℕ
number bs = cond (is_number bs) (Some (held (value_from 0 bs))) None
