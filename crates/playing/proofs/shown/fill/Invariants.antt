-- The loop fills the instants one by one, and the columns join (proofs/Cells). Where `to` is not above `from` no turn is made. The counts beyond the places do not matter.
use Rattle.playing.specs.Cells.{Filled}
use Prim.Native.Nat.{max, ◌≤◌}
use Rattle.playing.proofs.shown.fill.Given as goal

abbrev pub invariant-loop-i : goal.invariant-loop-i
invariant-loop-i l = (l.i ≤ max l.from l.to) × Filled l.places l.n l.from l.i l.counts l.initial.table l.table
