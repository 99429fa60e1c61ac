-- What hexadecimal digits come to as a number of 64 bits, for every list of bytes. Definitions only.
use Rattle.std.specs.Prelude.{ℕ, ◌+◌, ◌-◌, ◌*◌, ◌%◌, ◌^◌, List, [], ◌∷◌, leb, bit_or}
use Rattle.net.specs.Net.{pick}

-- A byte as a digit: from `a` on 10 and how far past `a` it is, below that how far past `0`, and below `0` nothing. So a byte that is no digit counts too,
-- and may count as 16 or more.
abbrev pub digit : ℕ → ℕ
digit b = pick (leb 97 b) (b - 97 + 10) (b - 48)

-- The number of digits behind those that come to n: each moves n up by four bits, of which those past 64 are lost, and its own bits are set beside them.
abbrev pub word_from : ℕ → List ℕ → ℕ
word_from n [] = n
word_from n (b ∷ bs) = word_from (bit_or (n * 16 % 2 ^ 64) (digit b)) bs
