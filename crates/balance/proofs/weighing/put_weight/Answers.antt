-- Each arm is the arm of the definition that the test leaves. Assumes nothing.
use borrow.Author.Tests.{eq-eqb, ne_eqb}
use Rattle.balance.proofs.weighing.put_weight.Goals as goal

pub returns-then-kind-eq-PUT : goal.returns-then-kind-eq-PUT
returns-then-kind-eq-PUT c = simp (eq-eqb _ _ c.if-kind-eq-PUT.true, c.arc_weight.ensures)

pub returns : goal.returns
returns c = simp (ne_eqb _ _ c.if-kind-eq-PUT.false)
