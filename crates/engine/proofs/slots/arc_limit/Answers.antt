-- Each return is the definition's arm by the test on the way. Assumes nothing.
use native.Mathlib.Omega.{arith}
use borrow.Author.Tests.{le-leb, lt-leb}
use Rattle.engine.proofs.Arcs.{amount_above, amount_most}
use Rattle.engine.proofs.slots.arc_limit.Goals as goal

pub returns-then-kind-ge-BLOCK : goal.returns-then-kind-ge-BLOCK
returns-then-kind-ge-BLOCK c = simp (le-leb _ _ c.if-kind-ge-BLOCK.true, c.amount-w.ensures)

pub overflow_add-result : goal.overflow_add-result
overflow_add-result c = let s = c in omega (arith, c.amount-w.ensures, amount_above s.args.weight)

pub returns : goal.returns
returns c =
    let s = c in
    simp (lt-leb _ _ c.if-kind-ge-BLOCK.false) (omega (arith, c.amount-w.ensures, amount_above s.args.weight, amount_most s.args.weight s.requires))
