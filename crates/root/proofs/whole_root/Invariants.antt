-- The loop's invariant is `Going`: after so many turns root * root + rem is the front part of m, root has as many digits and rem is at most twice root. Assumes
-- nothing.
use Rattle.root.proofs.Turns.{Going}
use Rattle.root.proofs.whole_root.Given as goal

abbrev pub invariant-loop : goal.invariant-loop
invariant-loop l = Going l.m l.rest l.root l.rem l.counter
