-- How much of a text was read. Definitions only.
use Rattle.std.specs.Prelude.{ℕ, Result, Ok, Err}

-- a read that failed has given no byte
abbrev pub bytes_of : {E : Type 0} → Result ℕ E → ℕ
bytes_of (Ok n) = n
bytes_of (Err e) = 0
