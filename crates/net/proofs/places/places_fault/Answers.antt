-- The invariant: the first fault of the places that are left is that of all. Assumes nothing.
use mathlib.Core.Path.{sym}
use Rattle.net.specs.Readable.{place_fault}
use Rattle.net.proofs.Faults.{else_go, faults_turn}
use Rattle.net.proofs.places.places_fault.Goals as goal

pub loop-p-preserved : goal.loop-p-preserved
loop-p-preserved c =
    let n = c.args.net.now in
    else_go _ (faults_turn (place_fault n.initial.now n.capacity.now n.label.now n.lengths.now) c.loop-p.p n.places c.loop-p-test.true c.loop-p.invariant)
    (sym c.in_ok-place_at.ensures)
