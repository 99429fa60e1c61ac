-- Invariant: after the turn of i the result is the product of the first i + 1 factors, the first of which is m (`first_factor`). Assumes nothing.
use mathlib.Core.Path.{◌≡◌}
use Prim.Native.Nat.{◌-◌, ◌≤◌}
use lib.IntN.{pos}
use Rattle.combinations.specs.Combinations.{product, whole_factor}
use Rattle.combinations.proofs.begun_product.Given as goal

abbrev pub invariant-loop-i : goal.invariant-loop-i
invariant-loop-i l = (1 ≤ l.i) × (l.i ≤ l.w) × (l.result ≡ product (whole_factor (pos l.m)) l.i)

abbrev pub decreases-loop-i : goal.decreases-loop-i
decreases-loop-i l = l.w - l.i
