-- The invariant: the first i cells are instants by their numbers, and the others stay (Fronts). Assumes nothing.
use Rattle.std.proofs.Common.{◌∙◌, arith, length-set}
use Rattle.averages.specs.Request as Spec
use Rattle.averages.proofs.Fronts.{by_more, by_end}
use Rattle.averages.proofs.request.fill_grid.Goals as goal

pub returns-then-n-c : goal.returns-then-n-c
returns-then-n-c c =
    let a = c.args in
    c.loop-i.invariant.1 ∙ by_end (Spec.instant a.width) 0 c.loop-i.i a.samples a.instants.now (omega arith) (λ h. omega arith)

pub loop-i-preserved : goal.loop-i-preserved
loop-i-preserved c =
    let a = c.args in (
      length-set c.loop-i.instants c.loop-i.i _ ∙ c.loop-i.invariant.0,
      by_more (Spec.instant a.width) c.loop-i.i a.instants.now c.loop-i.invariant.1 (omega arith),
    )
