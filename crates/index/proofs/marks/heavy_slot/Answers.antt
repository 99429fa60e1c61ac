-- By the arm taken; a weight above 1 is the amount it stands for (Inexact of the crate engine, several). Assumes nothing.
use borrow.Author.Tests.{eq-eqb, ne_eqb}
use Rattle.engine.proofs.Inexact.{several}
use Rattle.index.proofs.marks.heavy_slot.Goals as goal

pub returns-then-kind-eq-KINETIC_TAKE : goal.returns-then-kind-eq-KINETIC_TAKE
returns-then-kind-eq-KINETIC_TAKE c = simp (eq-eqb _ _ c.if-kind-eq-KINETIC_TAKE.true) (several c.args.weight)

pub returns : goal.returns
returns c = simp (ne_eqb _ _ c.if-kind-eq-KINETIC_TAKE.false)
