-- A NaN's pattern is one above the infinity's, its sign bit taken off.
use Rattle.net_text.proofs.Patterns.{nan_pattern, number_pattern}
use Rattle.net_text.proofs.float_of.Goals as goal

pub returns-then-bits-gt9218868437227405312 : goal.returns-then-bits-gt9218868437227405312
returns-then-bits-gt9218868437227405312 c =
    let s = c in
    nan_pattern s.args.bits c.if-bits-gt9218868437227405312.true

pub float_from_bits-result : goal.float_from_bits-result
float_from_bits-result c =
    let s = c in
    number_pattern s.args.bits c.if-bits-gt9218868437227405312.false
