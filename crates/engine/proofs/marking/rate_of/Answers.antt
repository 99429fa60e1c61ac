-- Each return is the definition's case by the tests on the way. Assumes nothing.

use Rattle.engine.proofs.marking.rate_of.Goals as goal

pub returns-then-delay : goal.returns-then-delay
returns-then-delay c = simp c.if-delay.true

pub returns-then-rate : goal.returns-then-rate
returns-then-rate c = simp (c.if-delay.false, c.if-rate.true)

pub returns : goal.returns
returns c = simp (c.if-delay.false, c.if-rate.false)
