-- One of the three ways of the definition: no propensity, a refused draw, and a draw whose noise and drift are spread. Assumes nothing.
use Rattle.std.proofs.Common.{arith}
use Rattle.net.specs.Record.{net_of}
use Rattle.sde.proofs.Skips.{is_zero, no_zero}
use Rattle.sde.proofs.Substeps.{push_nothing, push_refused, push_value}
use Rattle.std.proofs.lemmas.Result.{err_from_is_err_and}
use Rattle.sde.proofs.substep.push.Goals as goal

pub returns-in_err-z : goal.returns-in_err-z
returns-in_err-z c =
    let r = c.args.run.now in
    let p = err_from_is_err_and c.from_residual.result c.from_residual.ensures.1 in
    rw (p.1, p.2)
    (push_refused (net_of r.net) r.changes.now c.args.j r.net.places c.requires r.ready.sound.places r.ready.prepared.of_changes c.args.state.now (omega arith) (omega arith)
    r.dt r.root c.propensity-a.result r.ready.rooted c.propensity-a.ensures (no_zero _ c.if-a.true) (c.next_normal.result) c.next_normal.new.sampler
    c.next_normal.ensures _ c.in_err-z.was)

pub returns-in_ok-z : goal.returns-in_ok-z
returns-in_ok-z c =
    let r = c.args.run.now in
    let m = c.spread.ensures in
    push_value (net_of r.net) r.changes.now c.args.j r.net.places c.requires r.ready.sound.places r.ready.prepared.of_changes c.args.state.now (omega arith) (omega arith)
    r.dt r.root c.propensity-a.result r.ready.rooted c.propensity-a.ensures (no_zero _ c.if-a.true) c.next_normal.result c.next_normal.new.sampler
    c.next_normal.ensures _ c.sqrt.result c.spread.new.state c.in_ok-z.was c.sqrt.ensures.worked m.0 m.1 m.2

pub returns-else-a : goal.returns-else-a
returns-else-a c =
    let r = c.args.run.now in
    push_nothing (net_of r.net) r.changes.now c.args.j r.net.places c.requires r.ready.sound.places r.ready.prepared.of_changes c.args.state.now (omega arith) (omega arith)
    r.dt r.root c.propensity-a.result r.ready.rooted c.propensity-a.ensures (is_zero _ c.if-a.false)
