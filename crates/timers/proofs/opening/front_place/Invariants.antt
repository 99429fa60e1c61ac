-- Every timer passed does not complete later; the first that does ends it.
use Prim.Native.Nat.{◌+◌, ◌-◌}
use Rattle.timers.specs.Slots.{EachLater}
use mathlib.Core.Bool.{false}
use Rattle.timers.proofs.opening.front_place.Given as goal

abbrev pub invariant-loop-i : goal.invariant-loop-i
invariant-loop-i l = EachLater false l.at l.start (l.start + l.i) l.ats
