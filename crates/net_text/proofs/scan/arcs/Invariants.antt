-- The arcs so far, behind which the rest of the line is still to be read (Walk). An arc takes a byte or more, so the loop ends.
use Rattle.std.proofs.Common.{length}
use Rattle.net_text.proofs.Walk.{Walk}
use Rattle.net_text.proofs.scan.arcs.Given as goal

abbrev pub invariant-loop-a : goal.invariant-loop-a
invariant-loop-a l = Walk l.line l.base l.initial.net l.net l.count l.strange l.left

abbrev pub decreases-loop-a : goal.decreases-loop-a
decreases-loop-a l = length l.left
