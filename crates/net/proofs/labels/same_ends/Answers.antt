-- The first bytes and the last decide (Naming). Assumes nothing.
use mathlib.Core.Path.{ap₂, ◌∙◌}
use lib.Dec.{eqb}
use lib.Pointwise.{pointwise}
use Rattle.net.proofs.Naming.{last_decides, first_decides}
use Rattle.net.proofs.labels.same_ends.Goals as goal

pub returns-then-eq : goal.returns-then-eq
returns-then-eq g c =
    let i = c.in-Some-Some-Some-Some in
    last_decides c.args.a.now c.args.b.now g.row.N c.requires.0 c.requires.1 c.requires.2 c.if-eq.true
    (c.eq.ensures ∙ ap₂ (pointwise eqb) i.ensures.cases.0 i.ensures'.cases.0) (c.eq-then-eq.ensures ∙ ap₂ (pointwise eqb) i.ensures''.cases.1 i.ensures'''.cases.1)

pub returns-else-eq : goal.returns-else-eq
returns-else-eq g c =
    let i = c.in-Some-Some-Some-Some in
    first_decides c.args.a.now c.args.b.now g.row.N c.requires.0 c.requires.1 c.requires.2 c.if-eq.false (c.eq.ensures ∙ ap₂ (pointwise eqb) i.ensures.cases.0 i.ensures'.cases.0)
