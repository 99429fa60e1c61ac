-- By the side on which the limit lies. Assumes nothing.
use native.Mathlib.Omega.{arith}
use borrow.Author.Tests.{lt-ltb, le-ltb}
use Rattle.index.proofs.guards.threshold.Goals as goal

pub returns-then-limit-lt9223372036854775808 : goal.returns-then-limit-lt9223372036854775808
returns-then-limit-lt9223372036854775808 c = simp (lt-ltb _ _ c.if-limit-lt9223372036854775808.true)

pub returns : goal.returns
returns c = simp (le-ltb _ _ c.if-limit-lt9223372036854775808.false) (omega (arith, c.if-limit-lt9223372036854775808.false))
