-- The state below p has its drift. Assumes nothing.
use Rattle.std.proofs.Common.{ℕ, get_or, arith}
use lib.Ieee.{Float, nan, binary64, add}
use Rattle.sde.specs.Diffusion.{above_zero}
use Rattle.sde.proofs.Each.{map_none, map_more, map_all}
use Rattle.sde.proofs.substep.add_drift.Goals as goal

pub loop-p-init : goal.loop-p-init
loop-p-init c = map_none _ _

pub loop-p-preserved : goal.loop-p-preserved
loop-p-preserved c =
    map_more (λ (q : ℕ) (v : Float). above_zero (add binary64 v (get_or c.args.drift.now q nan))) c.loop-p.p c.args.x.now c.loop-p.x c.above_zero.result
    (omega (arith, c.loop-p.invariant.long)) c.above_zero.ensures c.loop-p.invariant

pub returns : goal.returns
returns c =
    map_all (λ (q : ℕ) (v : Float). above_zero (add binary64 v (get_or c.args.drift.now q nan))) c.args.places c.loop-p.p c.args.x.now c.loop-p.x (omega arith) c.requires
    c.loop-p-test.false c.loop-p.auto.p-end c.loop-p.invariant
