-- A refused draw stops, and else the substeps that are left go on. Assumes nothing.
use Rattle.std.proofs.Common.{◌∙◌}
use Rattle.std.proofs.lemmas.Result.{err_from_is_err_and}
use Rattle.net.specs.Record.{net_of}
use Rattle.net.specs.Readable.{readable}
use Rattle.sde.specs.Diffusion.{substep}
use Rattle.sde.specs.Arrays.{state_of}
use Rattle.sde.proofs.Substeps.{repeated_end, repeated_stop, repeated_go, interval_some, interval_none}
use Rattle.sde.proofs.substep.over_interval.Goals as goal

pub loop-i-init : goal.loop-i-init
loop-i-init c = let r = c.args.run.now in interval_some (readable (net_of r.net)) r.dt _ c.if-run.true

pub returns-in_err-substep : goal.returns-in_err-substep
returns-in_err-substep c =
    let r = c.args.run.now in
    let p = err_from_is_err_and c.from_residual.result c.from_residual.ensures.1 in
    rw (p.1, p.2)
    (repeated_stop (substep (readable (net_of r.net)) r.dt) 20 c.loop-i._i (state_of r.net.places c.loop-i.state) _ c.substep.result c.loop-i.invariant c.loop-i-test.true
    c.substep.ensures _ c.in_err-substep.was)

pub loop-i-preserved : goal.loop-i-preserved
loop-i-preserved c =
    let r = c.args.run.now in
    repeated_go (substep (readable (net_of r.net)) r.dt) 20 c.loop-i._i (state_of r.net.places c.loop-i.state) _ c.substep.result c.loop-i.invariant c.loop-i-test.true
    c.substep.ensures _ c.in_ok-substep.was

pub returns-after-loop-i : goal.returns-after-loop-i
returns-after-loop-i c =
    let r = c.args.run.now in
    repeated_end (substep (readable (net_of r.net)) r.dt) 20 c.loop-i._i (state_of r.net.places c.loop-i.state) c.loop-i-test.false ∙ c.loop-i.invariant

pub returns-else-run : goal.returns-else-run
returns-else-run c = let r = c.args.run.now in interval_none (readable (net_of r.net)) r.dt _ c.if-run.false
