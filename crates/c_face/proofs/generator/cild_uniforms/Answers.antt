-- The loop is a sweep whose state is the generator.
use native.Mathlib.Omega.{arith}
use mathlib.Core.Path.{◌≡◌, ap, ◌∙◌}
use lib.Ieee.{nan}
use lib.ListN.{length}
use Rattle.rng.specs.State.{words}
use Rattle.rng.specs.Xoshiro.{uniform}
use Rattle.c_face.proofs.Sweep.{sweep_none, sweep_more, swept_drawn, moved_after}
use Rattle.c_face.proofs.generator.cild_uniforms.Goals as goal

pub loop-x-init : goal.loop-x-init
loop-x-init c = rw c.from_state-rng.ensures (sweep_none _ _ _ _)

pub loop-x-preserved : goal.loop-x-preserved
loop-x-preserved c =
    let e = c.uniform-drawn.ensures in
    sweep_more _ _ nan c.loop-x.invariant (omega arith) e.0 e.1

pub returns : goal.returns
returns c =
    let m = c.loop-x.invariant in
    let out = c.args.out.now in
    let s = words c.args.state.now in
    let all : c.loop-x.x-index ≡ length out = omega (arith, m.within) in
    record { out_after = m.cells ∙ rw all (swept_drawn uniform s out); state_after = ap words c.state.ensures ∙ m.state ∙ rw all (moved_after _ (length out) s) }
