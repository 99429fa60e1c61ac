-- Each return is the arm of the definition that the tests leave. Assumes nothing.
use borrow.Author.Tests.{le-leb, lt-leb, lt-ltb, le-ltb}
use Rattle.words.proofs.Bits.{bit_none}
use Rattle.engine.proofs.guards.range.Goals as goal

pub returns-then-low-guards : goal.returns-then-low-guards
returns-then-low-guards c = λ j. simp (le-leb _ _ c.if-guards-p.true, lt-ltb _ _ c.if-low-guards.true)

pub returns-then-guards-p : goal.returns-then-guards-p
returns-then-guards-p c = λ j. simp (bit_none j, le-leb _ _ c.if-guards-p.true, le-ltb _ _ c.if-low-guards.false)

pub returns : goal.returns
returns c = λ j. simp (bit_none j, lt-leb _ _ c.if-guards-p.false)
