-- The two theorems on the square root, as statements. `proofs/Nearest.antt` proves the first and `proofs/Unique.antt` the second.
use Rattle.std.specs.Prelude.{◌≡◌, T, Float}
use Rattle.std.specs.Float.{binary64}
use Rattle.std.specs.Float.Ieee.{fits}
use Rattle.root.specs.Nearest.{SquareRoot}
use Rattle.root.specs.Root.{root_of}

-- What `root_of` works out is the square root, at every value of binary64. So where the value is positive and finite, the answer is the binary64 nearest
-- to the exact root, and no tie occurs.
abbrev pub RootIsNearest : Type 0
RootIsNearest = (x : Float) → T (fits binary64 x) → SquareRoot x (root_of x)

-- A value has one square root only: `SquareRoot` fixes the answer, and nothing of the way in which `root_of` works counts.
abbrev pub OnlyOne : Type 0
OnlyOne = (x r s : Float) → SquareRoot x r → SquareRoot x s → r ≡ s
