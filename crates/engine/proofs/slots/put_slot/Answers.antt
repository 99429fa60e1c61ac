-- Each arm is the arm of the definition that the tests leave. Assumes nothing.
use borrow.Author.Tests.{eq-eqb, ne_eqb}
use Rattle.engine.proofs.slots.put_slot.Goals as goal

pub returns-then-place-p : goal.returns-then-place-p
returns-then-place-p c = simp (eq-eqb _ _ c.if-kind-eq-PUT.true, eq-eqb _ _ c.if-place-p.true, c.amount.ensures)

pub returns-else-place-p : goal.returns-else-place-p
returns-else-place-p c = simp (eq-eqb _ _ c.if-kind-eq-PUT.true, ne_eqb _ _ c.if-place-p.false)

pub returns-else-kind-eq-PUT : goal.returns-else-kind-eq-PUT
returns-else-kind-eq-PUT c = simp (ne_eqb _ _ c.if-kind-eq-PUT.false)
