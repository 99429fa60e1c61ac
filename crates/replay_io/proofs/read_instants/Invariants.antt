-- The instants from n on are as they were.
use Rattle.std.proofs.Common.{◌≡◌, drop}
use Rattle.replay_io.proofs.read_instants.Given as goal

abbrev pub invariant-loop-i : goal.invariant-loop-i
invariant-loop-i g l = drop l.fn.n l.instants ≡ drop l.fn.n l.fn.instants
