-- `bits` meets its contract: the pattern written for the NaN is the definition's.
use Rattle.text.proofs.Nan.{nan_bits}
use Rattle.text.proofs.bits.Goals as goal

pub returns-then-is_nan : goal.returns-then-is_nan
returns-then-is_nan c = nan_bits c.args.x c.if-is_nan.ensures.value
