-- Each return is the arm of the definition that the test leaves. Assumes nothing.
use borrow.Author.Tests.{eq-eqb, ne_eqb}
use Rattle.words.proofs.Bits.{bit_none}
use Rattle.engine.proofs.guards.edge.Goals as goal

pub returns-then-low-eq0 : goal.returns-then-low-eq0
returns-then-low-eq0 c = λ j. simp (eq-eqb _ _ c.if-low-eq0.true)

pub returns : goal.returns
returns c = λ j. simp (bit_none j, ne_eqb _ _ c.if-low-eq0.false)
