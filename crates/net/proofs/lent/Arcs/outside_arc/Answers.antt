-- The invariant: the test of the slots that are left is that of all. Assumes nothing.
use borrow.Author.Tests.{le-ltb}
use Rattle.net.proofs.Slots.{or_neither, or_go, any_turn}
use Rattle.net.proofs.lent.Arcs.outside_arc.Goals as goal

pub loop-slot-preserved : goal.loop-slot-preserved
loop-slot-preserved c =
    or_go _ _ (any_turn _ _ _ _ _ _ c.loop-slot-test.true c.loop-slot.invariant)
    (or_neither (le-ltb _ _ c.if-self-slot-gt-BLOCK.false) (le-ltb _ _ c.if-self-slot-gt-MOST_WEIGHT.false))
