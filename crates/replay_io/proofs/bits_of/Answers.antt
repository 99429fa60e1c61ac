-- What differs from itself is the NaN; what doesn't is none, so its bits can be read. Assumes nothing.
use Rattle.portable_log.proofs.Laws.{no_nan, nan_of_ne}
use Rattle.replay_io.proofs.bits_of.Goals as goal

pub returns-then-x : goal.returns-then-x
returns-then-x c = nan_of_ne c.args.x c.if-x.true

pub float_to_bits-result : goal.float_to_bits-result
float_to_bits-result c = no_nan c.args.x c.if-x.false
