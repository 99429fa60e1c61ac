-- What the square root of a binary64 is, said of the answer alone and not of a way to find it. Definitions only.
-- Document 01: "the binary64 nearest the exact root, by comparing whole-number squares. NaN and negatives give NaN; either zero and +infinity return
-- themselves." IEEE 754 says the same in 5.4.1, squareRoot, rounded by 4.3.1, roundTiesToEven. Its rule for ties is never called on here.
use Rattle.std.specs.Prelude.{◌≡◌, ℕ, zero, suc, ◌+◌, ◌*◌, ◌^◌, ◌<◌, true, false, T, Float}
use Rattle.std.specs.Float.{nan, inf, fin, binary64}
use Rattle.std.specs.Float.Ieee.{fits}
use Rattle.std.specs.Float.Ieee.Exact.{HasValue}

-- x is a value of binary64 from +0 up, and it is n units: it has the sign of +0 and the size n / 2 ^ 1074. A unit is the smallest value above zero,
-- 2 ^ -1074, and each finite value, subnormal or normal, is a whole number of units.
pub record InUnits (x : Float) (n : ℕ) : Type 0 where
  pub held : T (fits binary64 x)
  pub value : HasValue x false n (2 ^ 1074)

-- "the binary64 nearest the exact root, by comparing whole-number squares": r is nearer to the root of x than any other value of the format.
-- x is n units and r is q units. The root of n / 2 ^ 1074 is the root of n * 2 ^ 1074, in units. Let p units be another value. r is the nearer one of the
-- two if that root lies on r's side of their midpoint, (p + q) / 2. Root and midpoint are doubled and squared, so that whole numbers are compared.
-- Neither side may be equal: no other value is as near, and no root is a tie. Values below zero are not asked, since +0 is nearer than they.
pub record NearestRoot (x r : Float) : Type 0 where
  pub n : ℕ
  pub q : ℕ
  pub of_x : InUnits x n
  pub of_r : InUnits r q
  pub above : (s : Float) (p : ℕ) → InUnits s p → p < q → (p + q) * (p + q) < 4 * (n * 2 ^ 1074)
  pub under : (s : Float) (p : ℕ) → InUnits s p → q < p → 4 * (n * 2 ^ 1074) < (p + q) * (p + q)

-- r is the square root of x. "NaN and negatives give NaN; either zero and +infinity return themselves", and any other value has its nearest root.
abbrev pub SquareRoot : Float → Float → Type 0
SquareRoot nan r = r ≡ nan
SquareRoot (inf true) r = r ≡ nan
SquareRoot (inf false) r = r ≡ inf false
SquareRoot (fin s zero e) r = r ≡ fin s zero e
SquareRoot (fin true (suc m) e) r = r ≡ nan
SquareRoot (fin false (suc m) e) r = NearestRoot (fin false (suc m) e) r
