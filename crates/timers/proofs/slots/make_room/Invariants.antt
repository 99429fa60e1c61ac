-- From the last one down, each timer goes one place up, into a slot that is free or whose timer has gone up already.
use Prim.Native.Nat.{◌+◌, ◌≤◌}
use Rattle.timers.specs.Turning.{held}
use Rattle.timers.specs.Slots.{MovedUp}
use Rattle.timers.proofs.slots.make_room.Given as goal

abbrev pub invariant-loop-k : goal.invariant-loop-k
invariant-loop-k l = (l.i ≤ l.k) × MovedUp l.start (l.start + l.k) (l.start + l.n) (held l.initial.ats l.initial.owners) (held l.ats l.owners)
