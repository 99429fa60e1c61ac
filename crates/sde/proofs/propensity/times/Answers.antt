-- A weight of 0 counts as 1, and one of v is taken in v ways. Assumes nothing.
use Rattle.std.proofs.Common.{arith, rules}
use lib.Dec.{T}
use lib.Ieee.{binary64, fits}
use Rattle.engine.proofs.Arcs.{amount_pos, amount_one}
use Rattle.sde.proofs.OneWay.{one_way}
use Rattle.sde.proofs.propensity.times.Goals as goal

pub returns-then-weight-le1 : goal.returns-then-weight-le1
returns-then-weight-le1 c =
    let held : T (fits binary64 c.args.v) = search rules in
    simp (amount_one c.args.weight c.if-weight-le1.true, one_way c.args.v held)

pub returns : goal.returns
returns c = simp (c.ways.ensures, amount_pos c.args.weight (λ e. omega (arith, c.if-weight-le1.false)))
