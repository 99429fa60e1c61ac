-- The invariant: the first c cells are deviations, and the others stay (Fronts). Assumes nothing.
use Rattle.std.proofs.Common.{set, ap, ◌∙◌, arith, length-set}
use Rattle.averages.specs.Moments as Moments
use Rattle.averages.proofs.Fronts.{with_more, with_end}
use Rattle.averages.proofs.moments.to_deviations.Goals as goal

pub loop-c-preserved : goal.loop-c-preserved
loop-c-preserved c =
    let a = c.args in (
      length-set c.loop-c.squares c.loop-c.c _ ∙ c.loop-c.invariant.0,
      ap (set c.loop-c.squares c.loop-c.c) c.deviation.ensures
          ∙ with_more (Moments.deviation_of a.n) c.loop-c.c a.means.now a.squares.now c.loop-c.invariant.1 (omega arith) (omega arith),
    )

pub returns : goal.returns
returns c =
    let a = c.args in
    c.loop-c.invariant.1 ∙ with_end (Moments.deviation_of a.n) c.loop-c.c a.cells a.means.now a.squares.now (omega arith) (λ h. omega arith)
