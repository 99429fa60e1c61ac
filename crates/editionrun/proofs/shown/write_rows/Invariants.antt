-- `shown::write_rows` is safe: what is left of the table is no longer than the table. Assumes nothing.
use Rattle.std.proofs.Common.{◌≤◌, length}
use Rattle.editionrun.proofs.shown.write_rows.Given as goal

abbrev pub invariant-loop-p : goal.invariant-loop-p
invariant-loop-p l = length l.rest ≤ length l.table
