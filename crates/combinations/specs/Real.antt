-- `combinations_real`: the same product for a real x, as a float. Document 01, "001" and "Combinations." among the turn-downs. It has no flag: document 02's
-- order 6 speaks of the integer form. And the float of the integer form alone. Definitions only.
use Rattle.std.specs.Prelude.{ℕ, cond, ℤ, pos, nat_abs, Float, Option, Some, None}
use Rattle.std.specs.Int.Signed.{le_z}
use Rattle.std.specs.Float.{binary64}
use Rattle.std.specs.Float.Ieee.{sub}
use Rattle.refusals.specs as Refusal
use Rattle.floats.specs.{float, one64}
use Rattle.combinations.specs.Combinations as Combinations
use Rattle.combinations.specs.Combinations.{Answer as Flagged, product, too_many}

-- a float, or the number of a refusal
pub data Answer : Type 0 where
  value : Float → Answer
  refused : ℕ → Answer

-- what the program's answer says: where there is none, it is refused
abbrev pub meaning : Option Float → Answer
meaning (Some x) = value x
meaning None = refused Refusal.outside_domain

-- the float of the integer form's answer, without its flag
abbrev pub unflagged : Flagged → Answer
unflagged (Combinations.value x e) = value x
unflagged (Combinations.refused c) = refused c

-- factor i is x less the float of i
abbrev pub real_factor : Float → ℕ → Float
real_factor x i = sub binary64 x (float i)

-- without the rule for m < w and the bound on m
abbrev pub combinations_real : Float → ℤ → Answer
combinations_real x w =
    cond (le_z w (pos 0)) (value one64)
    (cond (too_many w) (refused Refusal.outside_domain)
    (value (product (real_factor x) (nat_abs w))))
