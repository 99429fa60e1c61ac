-- The cells of the places below p show the state, and all others are as they were. Assumes nothing.
use Rattle.sde.specs.Arrays.{Column}
use Rattle.sde.proofs.walk.show.Given as goal

abbrev pub invariant-loop-p : goal.invariant-loop-p
invariant-loop-p l = Column l.n l.i l.p l.x l.initial.table l.table
