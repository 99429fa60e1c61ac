-- What differs from itself is the NaN, where the definition computes. Elsewhere the test on the exponent's field picks the definition's case.
use mathlib.Core.Path.{sym, ap, ◌∙◌}
use Rattle.portable_log.specs.Log.{frexp}
use Rattle.portable_log.proofs.Laws.{nan_of_ne, no_nan, frexp_nan, scaled_number}
use Rattle.portable_log.proofs.frexp.Goals as goal

pub returns-then-x : goal.returns-then-x
returns-then-x c = sym (ap frexp (nan_of_ne c.args.x c.if-x.true) ∙ frexp_nan)

pub float_to_bits-b : goal.float_to_bits-b
float_to_bits-b c = no_nan c.args.x c.if-x.false

pub float_to_bits-x : goal.float_to_bits-x
float_to_bits-x c = scaled_number c.args.x (no_nan c.args.x c.if-x.false)
