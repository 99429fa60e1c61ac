-- Each return is the arm of the definition that the test leaves. Assumes nothing.
use borrow.Author.Tests.{eq-eqb, ne_eqb}
use Rattle.engine.proofs.marking.given.Goals as goal

pub returns-then-kind-eq-PUT : goal.returns-then-kind-eq-PUT
returns-then-kind-eq-PUT c = simp (eq-eqb _ _ c.if-kind-eq-PUT.true, c.amount.ensures)

pub returns : goal.returns
returns c = simp (ne_eqb _ _ c.if-kind-eq-PUT.false)
