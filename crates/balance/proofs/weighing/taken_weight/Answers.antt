-- Each arm is the arm of the definition that the test leaves. Assumes nothing.
use borrow.Author.Tests.{le-leb, lt-leb}
use Rattle.balance.proofs.weighing.taken_weight.Goals as goal

pub returns-then-kind-le-TAKE : goal.returns-then-kind-le-TAKE
returns-then-kind-le-TAKE c = simp (le-leb _ _ c.if-kind-le-TAKE.true, c.arc_weight.ensures)

pub returns : goal.returns
returns c = simp (lt-leb _ _ c.if-kind-le-TAKE.false)
