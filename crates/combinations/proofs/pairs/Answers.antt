-- The first factor is m (`first_factor`), and one turn more is `next_factor`. Assumes nothing.
use native.Mathlib.Omega.{arith}
use mathlib.Core.Path.{ap, ◌∙◌}
use Prim.Native.Nat.{◌≤◌}
use lib.IntN.{pos}
use lib.Ieee.{binary64, of_int}
use Rattle.combinations.specs.Combinations.{whole_factor}
use Rattle.combinations.proofs.Product.{next_factor, minus_pos}
use Rattle.combinations.proofs.Steps.{first_factor}
use Rattle.combinations.proofs.pairs.Goals as goal

pub returns : goal.returns
returns c =
    let m = c.args.m in
    let h : 1 ≤ m = omega (arith, c.requires.0) in
    c.with_factor.ensures ∙ next_factor (whole_factor (pos m)) 1 _ _ (first_factor m h c.requires.1) (ap (of_int binary64) (minus_pos m 1 h))
