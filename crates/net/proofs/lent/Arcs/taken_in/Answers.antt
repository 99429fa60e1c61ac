-- The invariant: the test of the slots that are left is that of all. Assumes nothing.
use mathlib.Core.Path.{sym, ◌∙◌}
use Rattle.net.proofs.Slots.{or_go, any_turn}
use Rattle.net.proofs.lent.Arcs.taken_in.Goals as goal

pub loop-slot-preserved : goal.loop-slot-preserved
loop-slot-preserved c = or_go _ _ (any_turn _ _ _ _ _ _ c.loop-slot-test.true c.loop-slot.invariant) (sym c.takes_from.ensures ∙ c.if-takes_from.false)
