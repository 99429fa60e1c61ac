-- Every timer passed completes later and has moved one place up; the first that does not ends it.
use mathlib.Core.Bool.{true}
use Prim.Native.Nat.{◌+◌}
use Rattle.timers.specs.Slots.{EachLater, MovedUp}
use Rattle.timers.specs.Turning.{held}
use Rattle.timers.proofs.opening.open_from_end.Given as goal

abbrev pub invariant-loop-i : goal.invariant-loop-i
invariant-loop-i l =
    EachLater true l.at (l.start + l.i) (l.start + l.n) l.initial.ats × MovedUp l.start (l.start + l.i) (l.start + l.n) (held l.initial.ats l.initial.owners) (held l.ats l.owners)
