-- Each answer is that of the call by the tests that led to it (Asked). Assumes nothing.
use Rattle.std.proofs.Common.{sym, ap, ◌∙◌}
use Rattle.std.proofs.lemmas.Result.{err_from_is_err_and}
use Rattle.net.specs.Record.{net_of}
use Rattle.net.proofs.Sound.{sound}
use Rattle.rules.specs.Step.{given}
use Rattle.balance.proofs.Asked.{small, by_net, by_length, by_weight, by_sums}
use Rattle.balance.proofs.balance.Goals as goal

pub returns-in_err-test_net : goal.returns-in_err-test_net
returns-in_err-test_net c =
    let p = err_from_is_err_and c.from_residual.result c.from_residual.ensures.1 in
    rw (p.1, p.2) (by_net (net_of c.args.net.now) c.args.weights.now (sym c.in_err-test_net.ensures))

pub returns-then-weights-net : goal.returns-then-weights-net
returns-then-weights-net c = by_length (net_of c.args.net.now) c.args.weights.now (sym c.in_ok-test_net.ensures) c.if-weights-net.true

pub returns-then-some_above : goal.returns-then-some_above
returns-then-some_above c =
    by_weight (net_of c.args.net.now) c.args.weights.now (sym c.in_ok-test_net.ensures) c.if-weights-net.false
    (sym c.some_above.ensures ∙ c.if-some_above.true)

pub first_uneven-requires : goal.first_uneven-requires
first_uneven-requires c =
    (sound (net_of c.args.net.now) (sym c.in_ok-test_net.ensures), c.if-weights-net.false, small c.args.weights.now (sym c.some_above.ensures ∙ c.if-some_above.false))

pub returns : goal.returns
returns c =
    ap given c.first_uneven.ensures
    ∙ by_sums (net_of c.args.net.now) c.args.weights.now (sym c.in_ok-test_net.ensures) c.if-weights-net.false
    (sym c.some_above.ensures ∙ c.if-some_above.false)
