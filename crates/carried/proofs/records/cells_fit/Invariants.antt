-- What is left to test of the places, from place p on, is the whole test.
use Rattle.std.proofs.Common.{◌≡◌, ◌-◌}
use Rattle.carried.specs.Records.{strange_from, record_strange}
use Rattle.carried.proofs.records.cells_fit.Given as goal

abbrev pub invariant-loop-p : goal.invariant-loop-p
invariant-loop-p l = strange_from l.n l.recorded l.table l.p (l.places - l.p) ≡ record_strange l.places l.n l.recorded l.table
