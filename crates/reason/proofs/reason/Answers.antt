-- `reason` meets its contract: the net's tests, then the text for what gates it (Called). Assumes nothing.
use mathlib.Core.Path.{sym, ap, ◌∙◌}
use Rattle.std.proofs.lemmas.Result.{err_from_is_err_and}
use Rattle.net.specs.Labels.{label_at}
use Rattle.net.specs.Record.{net_of}
use Rattle.net.proofs.Sound.{sound}
use Rattle.gates.specs.Gated.{Gates}
use Rattle.reason.specs.Reasons.{reason_text}
use Rattle.reason.specs.Call.{reasons, answered}
use Rattle.reason.proofs.Called.{by_fault, by_text}
use Rattle.reason.proofs.reason.Goals as goal

pub returns-in_err-test_net : goal.returns-in_err-test_net
returns-in_err-test_net c =
    let p = err_from_is_err_and c.from_residual.result c.from_residual.ensures.1 in
    rw (p.1, p.2) (by_fault (net_of c.args.net.now) c.args.out.now (sym c.in_err-test_net.ensures))

pub gates_of-g-requires : goal.gates_of-g-requires
gates_of-g-requires c = sound (net_of c.args.net.now) (sym c.in_ok-test_net.ensures)

pub returns : goal.returns
returns c =
    let a = c.args in
    let n = net_of a.net.now in
    by_text n a.out.now (sym c.in_ok-test_net.ensures)
    (c.write_reason.ensures
    ∙ ap (λ (g : Gates). answered a.out.now (reason_text (reasons (label_at n.label n.lengths) g))) c.gates_of-g.ensures)
