-- By the tests.
use borrow.Author.Tests.{le-leb, lt-leb}
use Rattle.game.proofs.accept.turns_fit.Goals as goal

pub returns-then-turns-ge1 : goal.returns-then-turns-ge1
returns-then-turns-ge1 c = simp (le-leb _ _ c.if-turns-ge1.true)

pub returns : goal.returns
returns c = simp (lt-leb _ _ c.if-turns-ge1.false)
