-- The second test is made where the first holds. Its bits are those of the infinity.
use Rattle.std.proofs.Common.{Bool, false, ◌&&◌, sym, ap}
use Prim.{tt}
use lib.Ieee.{inf, lt, nan_bits, of_bits}
use Rattle.carried.proofs.state.time_fits.Goals as goal

pub float_from_bits-result : goal.float_from_bits-result
unfolding nan_bits
float_from_bits-result c = tt

pub returns-then-t : goal.returns-then-t
unfolding of_bits
returns-then-t c = sym (ap (λ (b : Bool). b && lt c.args.t (inf false)) c.if-t.true)

pub returns : goal.returns
returns c = sym (ap (λ (b : Bool). b && lt c.args.t (inf false)) c.if-t.false)
