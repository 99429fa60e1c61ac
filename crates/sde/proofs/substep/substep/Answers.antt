-- The drift cleared, the transitions in their order, the drift added: the parts of the definition. Assumes nothing.
use Rattle.std.proofs.Common.{arith}
use Rattle.std.proofs.lemmas.Result.{err_from_is_err_and}
use Rattle.net.specs.Record.{net_of}
use Rattle.net.specs.Readable.{readable}
use Rattle.net.specs.Net.{zero64}
use Rattle.sde.specs.Arrays.{state_of}
use Rattle.sde.proofs.Each.{front_mapped}
use Rattle.sde.proofs.Substeps.{begun_is, after_drift_is, substep_stop, substep_go}
use Rattle.sde.proofs.substep.substep.Goals as goal

pub returns-in_err-push_all : goal.returns-in_err-push_all
returns-in_err-push_all c =
    let r = c.args.run.now in
    let p = err_from_is_err_and c.from_residual.result c.from_residual.ensures.1 in
    rw (p.1, p.2)
    (substep_stop (readable (net_of r.net)) r.dt (state_of r.net.places c.args.state.now) _ _ c.push_all.result
    (begun_is r.net.places c.args.state.now _ r.ready.sound.places (omega arith) (omega arith)
    (front_mapped zero64 r.net.places c.args.state.now.drift _ (omega arith) c.clear.ensures))
    c.push_all.ensures _ c.in_err-push_all.was)

pub returns : goal.returns
returns c =
    let r = c.args.run.now in
    substep_go (readable (net_of r.net)) r.dt (state_of r.net.places c.args.state.now) _ _ c.push_all.result
    (begun_is r.net.places c.args.state.now _ r.ready.sound.places (omega arith) (omega arith)
    (front_mapped zero64 r.net.places c.args.state.now.drift _ (omega arith) c.clear.ensures))
    c.push_all.ensures _ c.in_ok-push_all.was _
    (after_drift_is r.net.places c.push_all.new.state _ c.add_drift.ensures)
