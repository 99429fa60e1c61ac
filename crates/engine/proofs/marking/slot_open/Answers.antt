-- Each arm of the code is the arm of the definition that the test leaves.
use borrow.Author.Tests.{lt-ltb, le-ltb}
use Rattle.engine.proofs.marking.slot_open.Goals as goal

pub returns-then-limit-lt9223372036854775808 : goal.returns-then-limit-lt9223372036854775808
returns-then-limit-lt9223372036854775808 c = simp (lt-ltb _ _ c.if-limit-lt9223372036854775808.true)

pub returns : goal.returns
returns c = simp (le-ltb _ _ c.if-limit-lt9223372036854775808.false)
