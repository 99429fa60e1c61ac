-- The state below p is the initial counts. Assumes nothing.
use Rattle.std.proofs.Common.{ℕ, get_or}
use lib.Ieee.{Float}
use Rattle.rules.specs.Propensity.{float}
use Rattle.sde.proofs.Each.{MapTo}
use Rattle.sde.proofs.walk.first_state.Given as goal

abbrev pub invariant-loop-p : goal.invariant-loop-p
invariant-loop-p l = MapTo (λ (q : ℕ) (v : Float). float (get_or l.initial' q 0)) l.p l.initial.x l.x
