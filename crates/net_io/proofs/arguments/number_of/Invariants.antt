-- The digits so far come to the value, and the rest on top of it to the whole (Digits, Upto). Assumes nothing.
use Rattle.net_io.proofs.Digits.{Upto}
use Rattle.net_io.proofs.arguments.number_of.Given as goal

abbrev pub invariant-loop-b : goal.invariant-loop-b
invariant-loop-b l = Upto l.digits l.b-index l.value
