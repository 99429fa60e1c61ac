-- Each arm is the arm of the definition that the tests leave. Assumes nothing.
use borrow.Author.Tests.{le-leb, lt-leb, eq-eqb, ne_eqb}
use Rattle.engine.proofs.slots.taken_slot.Goals as goal

pub returns-then-place-p : goal.returns-then-place-p
returns-then-place-p c = simp (le-leb _ _ c.if-kind-le-TAKE.true, eq-eqb _ _ c.if-place-p.true, c.amount.ensures)

pub returns-else-place-p : goal.returns-else-place-p
returns-else-place-p c = simp (le-leb _ _ c.if-kind-le-TAKE.true, ne_eqb _ _ c.if-place-p.false)

pub returns-else-kind-le-TAKE : goal.returns-else-kind-le-TAKE
returns-else-kind-le-TAKE c = simp (lt-leb _ _ c.if-kind-le-TAKE.false)
