-- One place more (Beginning). Assumes nothing.
use Rattle.index.proofs.Beginning.{Beginning}
use Rattle.index.proofs.guards.begun.Given as goal

abbrev pub invariant-loop-p : goal.invariant-loop-p
invariant-loop-p l = Beginning l.words l.guards l.p
