-- The loop adds what the timers before timer i took; with what is left it is the whole, and each took at most 16,000,000 (Changed).
use Rattle.ssa.proofs.Changed.{Adding}
use Rattle.ssa.proofs.change.taken.Given as goal

abbrev pub invariant-loop-i : goal.invariant-loop-i
invariant-loop-i l = Adding l.takens l.n l.total l.i
