-- The pattern is that of infinity.
use Prim.{tt}
use mathlib.Core.Path.{refl}
use lib.Ieee.{nan_bits, of_bits}
use Rattle.timers.proofs.idle.Goals as goal

pub float_from_bits-result : goal.float_from_bits-result
unfolding nan_bits
float_from_bits-result c = tt

pub returns : goal.returns
unfolding of_bits
returns c = refl
