-- The test says which of the two the definition picks, and what comes in is the definition's time but for the division.
use Rattle.portable_log.proofs.Laws.{inf_bits, inf_is_no_nan}
use Rattle.jump.proofs.waiting.Goals as goal

pub float_from_bits-result : goal.float_from_bits-result
float_from_bits-result c = inf_is_no_nan

pub returns : goal.returns
returns c = (simp (c.if-a0.false, inf_bits), simp c.if-a0.false)
