-- The invariant: the first c cells are means, and the others stay (Fronts). Assumes nothing.
use Rattle.std.proofs.Common.{◌∙◌, arith, length-set}
use Rattle.averages.specs.Moments as Moments
use Rattle.averages.proofs.Fronts.{on_more, on_end}
use Rattle.averages.proofs.moments.to_means.Goals as goal

pub loop-c-preserved : goal.loop-c-preserved
loop-c-preserved c =
    let a = c.args in (
      length-set c.loop-c.sums c.loop-c.c _ ∙ c.loop-c.invariant.0,
      on_more (Moments.mean_of a.n) c.loop-c.c a.sums.now c.loop-c.invariant.1 (omega arith),
    )

pub returns : goal.returns
returns c =
    let a = c.args in
    c.loop-c.invariant.1 ∙ on_end (Moments.mean_of a.n) c.loop-c.c a.cells a.sums.now (omega arith) (λ h. omega arith)
