-- The answer of a call that is refused, with the state of a path that has not begun. Assumes nothing.
use mathlib.Core.Path.{ap, ◌∙◌}
use Rattle.refusals.specs.Number.{number_of}
use Rattle.ssa.specs.Halted.{Standing, turned_down}
use Rattle.ssa.proofs.until.refused.Goals as goal

pub returns : goal.returns
returns c = λ places table.
    c.turned_down.ensures places table
    ∙ ap (λ (s : Standing). turned_down (number_of c.args.c) s table) (c.unbegun.ensures places)
