-- The first i slots hold the first i timers of the queue; whether they are in order is looked at afterwards.
use Prim.Native.Nat.{◌-◌}
use Rattle.timers.specs.Turning.{held}
use Rattle.timers.proofs.Queues.{Loaded}
use Rattle.timers.proofs.queue.hand_in.Given as goal

abbrev pub invariant-loop-i : goal.invariant-loop-i
invariant-loop-i l = Loaded l.queue l.i (held l.initial.ats l.initial.owners) (held l.ats l.owners)
