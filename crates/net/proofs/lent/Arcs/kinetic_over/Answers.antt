-- The invariant: the total so far and that of the slots that are left make the whole, and the first is at most 16. Assumes nothing.
use native.Mathlib.Omega.{arith}
use Rattle.net.proofs.Slots.{kinetic_turn}
use Rattle.net.proofs.lent.Arcs.kinetic_over.Goals as goal

pub loop-slot-preserved : goal.loop-slot-preserved
loop-slot-preserved c =
    let n = c.args.self.now.net.now in
    let turn = kinetic_turn n.kind.now n.place.now n.weight.now c.loop-slot.slot c.args.self.now.end c.loop-slot-test.true in
    (omega (arith, c.kinetic_weight-more.ensures, c.loop-slot.invariant.0), omega arith)
