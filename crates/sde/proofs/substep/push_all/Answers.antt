-- A refused draw stops, and else the transitions that are left go on. Assumes nothing.
use Rattle.std.proofs.Common.{◌∙◌}
use Rattle.std.proofs.lemmas.Result.{err_from_is_err_and}
use Rattle.net.specs.Record.{net_of}
use Rattle.sde.specs.Arrays.{going_of}
use Rattle.sde.proofs.Substeps.{all_whole, all_end, all_stop, all_go}
use Rattle.sde.proofs.substep.push_all.Goals as goal

pub loop-j-init : goal.loop-j-init
loop-j-init c = let r = c.args.run.now in all_whole (net_of r.net) r.dt r.net.transitions _

pub returns-in_err-push : goal.returns-in_err-push
returns-in_err-push c =
    let r = c.args.run.now in
    let p = err_from_is_err_and c.from_residual.result c.from_residual.ensures.1 in
    rw (p.1, p.2)
    (all_stop (net_of r.net) r.dt c.loop-j.j r.net.transitions (going_of r.net.places c.loop-j.state) _ c.push.result c.loop-j.invariant c.loop-j-test.true c.push.ensures _ c.in_err-push.was)

pub loop-j-preserved : goal.loop-j-preserved
loop-j-preserved c =
    let r = c.args.run.now in
    all_go (net_of r.net) r.dt c.loop-j.j r.net.transitions (going_of r.net.places c.loop-j.state) _ c.push.result c.loop-j.invariant c.loop-j-test.true c.push.ensures _ c.in_ok-push.was

pub returns : goal.returns
returns c =
    let r = c.args.run.now in
    all_end (net_of r.net) r.dt c.loop-j.j r.net.transitions (going_of r.net.places c.loop-j.state) c.loop-j-test.false ∙ c.loop-j.invariant
