-- The first i places of the queue hold the first i timers.
use Prim.Native.Nat.{◌-◌}
use Rattle.timers.specs.Turning.{held}
use Rattle.timers.proofs.Queues.{Queued}
use Rattle.timers.proofs.queue.hand_out.Given as goal

abbrev pub invariant-loop-i : goal.invariant-loop-i
invariant-loop-i l = Queued (held l.ats l.owners) l.start l.i l.times l.whos l.takens
