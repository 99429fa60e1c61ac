-- The floats that several crates name. Definitions only.
use Rattle.std.specs.Prelude.{ℕ, pos, Float}
use Rattle.std.specs.Float.{binary64}
use Rattle.std.specs.Float.Ieee.{of_int, of_bits}

abbrev pub zero64 : Float
zero64 = of_bits binary64 0x0000_0000_0000_0000

abbrev pub one64 : Float
one64 = of_bits binary64 0x3FF0_0000_0000_0000

-- a whole number as a float: up to 2^53 the number itself
abbrev pub float : ℕ → Float
float n = of_int binary64 (pos n)
