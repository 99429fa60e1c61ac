-- From the last pair to the first, the table holds the new numbers that the pairs from pair i on give (proofs/Named). A number past the table
-- is nobody's in it. Assumes nothing.
use Rattle.std.proofs.Common.{◌*◌, ◌/◌, ◌≤◌, length, drop}
use Rattle.carried.specs.Pairs.{pairs_of, Names}
use Rattle.carried.proofs.renaming.names_of.Given as goal

abbrev pub invariant-loop-k : goal.invariant-loop-k
invariant-loop-k l = (l.k ≤ length l.pairs / 2) × Names (pairs_of (drop (2 * l.k) l.pairs)) l.names
