-- The invariant: the first fault of the transitions that are left is that of all. Assumes nothing.
use mathlib.Core.Path.{sym}
use Rattle.std.proofs.lemmas.Result.{err_from_is_err_and}
use Rattle.net.specs.Readable.{move_fault}
use Rattle.net.specs.Record.{net_of}
use Rattle.net.proofs.Faults.{else_stop, else_go, faults_turn}
use Rattle.net.proofs.transitions.transitions_fault.Goals as goal

pub returns-in_err-transition_at : goal.returns-in_err-transition_at
returns-in_err-transition_at c =
    let n = c.args.net.now in
    let p = err_from_is_err_and c.from_residual.result c.from_residual.ensures.1 in
    rw (p.1, p.2)
    (else_stop _ (faults_turn (move_fault (net_of n)) c.loop-j.j n.transitions c.loop-j-test.true c.loop-j.invariant)
    (sym c.in_err-transition_at.ensures))

pub loop-j-preserved : goal.loop-j-preserved
loop-j-preserved c =
    let n = c.args.net.now in
    else_go _ (faults_turn (move_fault (net_of n)) c.loop-j.j n.transitions c.loop-j-test.true c.loop-j.invariant)
    (sym c.in_ok-transition_at.ensures)
