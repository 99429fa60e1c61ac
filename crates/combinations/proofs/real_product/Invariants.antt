-- Invariant: after i turns the result is the product of the first i factors. One turn is `next_factor`.
use mathlib.Core.Path.{◌≡◌}
use Prim.Native.Nat.{◌-◌, ◌≤◌}
use Rattle.combinations.specs.Combinations.{product}
use Rattle.combinations.specs.Real.{real_factor}
use Rattle.combinations.proofs.real_product.Given as goal

abbrev pub invariant-loop-i : goal.invariant-loop-i
invariant-loop-i l = (l.i ≤ l.w) × (l.result ≡ product (real_factor l.x) l.i)

abbrev pub decreases-loop-i : goal.decreases-loop-i
decreases-loop-i l = l.w - l.i
