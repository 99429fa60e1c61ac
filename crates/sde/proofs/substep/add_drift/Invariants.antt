-- The state below p has its drift. Assumes nothing.
use Rattle.std.proofs.Common.{ℕ, get_or}
use lib.Ieee.{Float, nan, binary64, add}
use Rattle.sde.specs.Diffusion.{above_zero}
use Rattle.sde.proofs.Each.{MapTo}
use Rattle.sde.proofs.substep.add_drift.Given as goal

abbrev pub invariant-loop-p : goal.invariant-loop-p
invariant-loop-p l = MapTo (λ (q : ℕ) (v : Float). above_zero (add binary64 v (get_or l.drift q nan))) l.p l.initial.x l.x
