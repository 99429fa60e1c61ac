-- The operations are the definition's; with 1022 in its exponent's field a pattern is no NaN's.
use Rattle.portable_log.proofs.Laws.{half_is_no_nan}
use Rattle.portable_log.proofs.with_half.Goals as goal

pub float_from_bits-result : goal.float_from_bits-result
float_from_bits-result c = half_is_no_nan c.args.b
