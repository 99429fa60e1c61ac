-- The loop keeps what is still reached from here: next plus the instants reached from next on is i plus those reached from i on.
use lib.ListN.{drop}
use Rattle.playing.specs.Cells.{reached_by}
use mathlib.Core.Path.{◌≡◌}
use Prim.Native.Nat.{◌+◌}
use Rattle.playing.proofs.shown.reached.Given as goal

abbrev pub invariant-loop-i : goal.invariant-loop-i
invariant-loop-i l = l.next + reached_by l.clock (drop l.next l.instants) ≡ l.i + reached_by l.clock (drop l.i l.instants)
