-- `decimal_length` meets its contract. The invariant: the digits counted and those of what is left are the decimal's.
-- That the count fits follows from its sum with what is left, which does not grow.
use native.Mathlib.Omega.{arith}
use Rattle.text.proofs.Digits.{count_tenth, decimal_length}
use Rattle.text.proofs.decimal_length.Goals as goal

pub loop-rest-init : goal.loop-rest-init
loop-rest-init c = (rw (decimal_length c.args.n) (omega arith), omega arith)

pub loop-rest-preserved : goal.loop-rest-preserved
loop-rest-preserved c = (omega (arith, count_tenth c.loop-rest.rest (omega arith)), omega arith)
