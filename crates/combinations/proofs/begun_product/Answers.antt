-- Invariant: after the turn of i the result is the product of the first i + 1 factors, the first of which is m (`first_factor`). Assumes nothing.
use native.Mathlib.Omega.{arith}
use Rattle.combinations.proofs.Steps.{first_factor}
use Rattle.combinations.proofs.begun_product.Goals as goal

pub loop-i-init : goal.loop-i-init
loop-i-init c =
    let m = c.args.m in
    (omega arith, c.requires.0, first_factor m (omega (arith, c.requires.0, c.requires.1)) c.requires.2)
