-- The code's operations are the definition's, in its order, and the entries of the table are its coefficients; no entry is a NaN's pattern.
use lib.Ieee.{nan_bits}
use Rattle.portable_log.specs.Log.{combine}
use borrow.Author.Rules.{rules}
use Rattle.portable_log.proofs.combine.Goals as goal

pub float_from_bits-l1 : goal.float_from_bits-l1
unfolding nan_bits
float_from_bits-l1 c = tt

pub float_from_bits-l2 : goal.float_from_bits-l2
unfolding nan_bits
float_from_bits-l2 c = tt

pub float_from_bits-l3 : goal.float_from_bits-l3
unfolding nan_bits
float_from_bits-l3 c = tt

pub float_from_bits-l4 : goal.float_from_bits-l4
unfolding nan_bits
float_from_bits-l4 c = tt

pub float_from_bits-l5 : goal.float_from_bits-l5
unfolding nan_bits
float_from_bits-l5 c = tt

pub float_from_bits-l6 : goal.float_from_bits-l6
unfolding nan_bits
float_from_bits-l6 c = tt

pub float_from_bits-l7 : goal.float_from_bits-l7
unfolding nan_bits
float_from_bits-l7 c = tt

pub returns : goal.returns
unfolding combine
returns c = search rules
