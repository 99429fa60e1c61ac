-- By the first test that the call meets, or its run (Accepted). Assumes nothing.
use Rattle.std.proofs.Common.{sym, ◌∙◌}
use Rattle.net.specs.Record.{net_of}
use Rattle.rng.specs.State.{words}
use Rattle.ssa.proofs.Accepted.{passed, called_by}
use Rattle.ssa.proofs.path.Goals as goal

pub accepted_path-requires : goal.accepted_path-requires
accepted_path-requires c =
    let a = c.args in
    let p = passed (net_of a.net.now) a.instants.now a.limit a.table.now c.in-Ok.ensures in
    (p.sound, p.instants, p.room)

pub returns-in-Ok : goal.returns-in-Ok
returns-in-Ok c =
    let a = c.args in
    c.accepted_path.ensures ∙ called_by (net_of a.net.now) (words a.generator.s) a.instants.now a.limit a.table.now c.in-Ok.ensures

pub returns-in-Err : goal.returns-in-Err
returns-in-Err c =
    let a = c.args in
    c.turned_down.ensures a.table.now ∙ called_by (net_of a.net.now) (words a.generator.s) a.instants.now a.limit a.table.now c.in-Err.ensures
