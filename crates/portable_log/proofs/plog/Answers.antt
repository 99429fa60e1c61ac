-- A NaN is the definition's first case. Where the pattern shows a normal number above 0, the definition goes by the pattern's parts (`at_normal`). Where one of
-- the two tests on the field fails, x is no such number.
use mathlib.Core.Path.{◌∙◌}
use native.Mathlib.Omega.{arith}
use Rattle.portable_log.proofs.Laws.{no_nan, at_nan, at_normal}
use Rattle.portable_log.proofs.plog.Goals as goal

pub returns-then-x : goal.returns-then-x
returns-then-x c = at_nan c.args.x c.if-x.true

pub float_to_bits-b : goal.float_to_bits-b
float_to_bits-b c = no_nan c.args.x c.if-x.false

pub returns-then-e-lt2047 : goal.returns-then-e-lt2047
returns-then-e-lt2047 c =
    c.scaled_log.ensures ∙ at_normal c.args.x c.if-x.false (omega arith) (omega arith)
