-- The clock and the first i completion times stand in their places.
use mathlib.Core.List.{List}
use Prim.Native.Nat.{ℕ, ◌+◌}
use lib.Ieee.{nan}
use Rattle.carried.specs.Timers.{timers_in}
use Rattle.c_face.specs.Layout.{time_in}
use Rattle.c_face.proofs.Parts.{Holds}
use Rattle.c_face.proofs.halted_words.write_times.Given as goal

abbrev pub invariant-loop-i : goal.invariant-loop-i
invariant-loop-i l =
    (whos takens : List ℕ) → Holds nan (time_in l.clock (timers_in l.ats whos takens l.n)) 257 l.times (l.i + 1)
