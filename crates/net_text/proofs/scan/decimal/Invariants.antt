-- What is read of the digits, and what is left of the line (Decimals).
use Rattle.std.proofs.Common.{length}
use Rattle.net_text.proofs.Decimals.{Reading}
use Rattle.net_text.proofs.scan.decimal.Given as goal

abbrev pub invariant-loop-rest : goal.invariant-loop-rest
invariant-loop-rest l = Reading l.line l.rest l.sum.value l.sum.over

abbrev pub decreases-loop-rest : goal.decreases-loop-rest
decreases-loop-rest l = length l.rest
