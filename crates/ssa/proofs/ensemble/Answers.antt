-- By the first test that the call meets, or its run (Requested). Assumes nothing.
use Rattle.std.proofs.Common.{sym, ◌∙◌}
use Rattle.net.specs.Record.{net_of}
use Rattle.averages.proofs.Passes.{room}
use Rattle.ssa.proofs.Requested.{called_by, passed}
use Rattle.ssa.proofs.ensemble.Goals as goal

pub accepted-requires : goal.accepted-requires
accepted-requires c =
    let a = c.args in
    let p = passed (net_of a.net.now) (record { samples = a.samples; realizations = a.realizations; seed = a.seed; horizon = a.horizon })
    (record { mean = a.mean.now; deviation = a.deviation.now; path = a.path.now }) c.in-Ok.ensures in
    let r = room _ _ _ _ p.2 in
    (p.0, p.1, r.in_mean, r.in_deviation, r.in_path)

pub returns-in-Ok : goal.returns-in-Ok
returns-in-Ok c =
    let a = c.args in
    c.accepted.ensures
    ∙ called_by (net_of a.net.now) (record { samples = a.samples; realizations = a.realizations; seed = a.seed; horizon = a.horizon })
    (record { mean = a.mean.now; deviation = a.deviation.now; path = a.path.now }) c.in-Ok.ensures

pub returns-in-Err : goal.returns-in-Err
returns-in-Err c =
    let a = c.args in
    called_by (net_of a.net.now) (record { samples = a.samples; realizations = a.realizations; seed = a.seed; horizon = a.horizon })
    (record { mean = a.mean.now; deviation = a.deviation.now; path = a.path.now }) c.in-Err.ensures
