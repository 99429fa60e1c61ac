-- The sums before j are good, and the sum in hand is that of the first j (Summing). Assumes nothing.
use Rattle.jump.proofs.Summing.{Summing}
use Rattle.jump.proofs.sums.resum.Given as goal

abbrev pub invariant-loop-j : goal.invariant-loop-j
invariant-loop-j l = Summing l.transitions l.props l.sums l.sum l.j
