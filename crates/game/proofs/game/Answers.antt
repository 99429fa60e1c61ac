-- Each answer is that of the call by the tests that led to it (Asked), and an answer of the search is the game's (Right). Assumes nothing.
use Rattle.std.proofs.Common.{sym, ◌∙◌}
use Rattle.std.proofs.lemmas.Result.{err_from_is_err_and}
use Rattle.net.specs.Record.{net_of}
use Rattle.net.proofs.Sound.{sound}
use Rattle.game.specs.Play.{fault_of}
use Rattle.game.proofs.Asked.{fitting, turns_few, by_net, by_delay, by_sides, by_turns, by_place, by_game, answer_exactly}
use Rattle.game.proofs.game.Goals as goal

pub returns-in_err-test_net-clause-is : goal.returns-in_err-test_net-clause-is
returns-in_err-test_net-clause-is c =
    let a = c.args in
    let p = err_from_is_err_and c.from_residual.result c.from_residual.ensures.1 in
    rw (p.1, p.2) (by_net (net_of a.net.now) a.sides.now a.place a.count a.turns (sym c.in_err-test_net.ensures))

pub any_timed-requires : goal.any_timed-requires
any_timed-requires c = (sound (net_of c.args.net.now) (sym c.in_ok-test_net.ensures)).transitions

pub returns-then-any_timed-clause-is : goal.returns-then-any_timed-clause-is
returns-then-any_timed-clause-is c =
    let a = c.args in
    by_delay (net_of a.net.now) a.sides.now a.place a.count a.turns (sym c.in_ok-test_net.ensures) (sym c.any_timed.ensures ∙ c.if-any_timed.true)

pub returns-then-not-sides_fit-clause-is : goal.returns-then-not-sides_fit-clause-is
returns-then-not-sides_fit-clause-is c =
    let a = c.args in
    by_sides (net_of a.net.now) a.sides.now a.place a.count a.turns (sym c.in_ok-test_net.ensures) (sym c.any_timed.ensures ∙ c.if-any_timed.false)
    (sym c.sides_fit.ensures ∙ c.if-not-sides_fit.true)

pub returns-then-not-turns_fit-clause-is : goal.returns-then-not-turns_fit-clause-is
returns-then-not-turns_fit-clause-is c =
    let a = c.args in
    by_turns (net_of a.net.now) a.sides.now a.place a.count a.turns (sym c.in_ok-test_net.ensures) (sym c.any_timed.ensures ∙ c.if-any_timed.false)
    (sym c.sides_fit.ensures ∙ c.if-not-sides_fit.false) (sym c.turns_fit.ensures ∙ c.if-not-turns_fit.true)

pub returns-then-net-place-clause-is : goal.returns-then-net-place-clause-is
returns-then-net-place-clause-is c =
    let a = c.args in
    by_place (net_of a.net.now) a.sides.now a.place a.count a.turns (sym c.in_ok-test_net.ensures) (sym c.any_timed.ensures ∙ c.if-any_timed.false)
    (sym c.sides_fit.ensures ∙ c.if-not-sides_fit.false) (sym c.turns_fit.ensures ∙ c.if-not-turns_fit.false) c.if-net-place.true

pub returns-clause-is : goal.returns-clause-is
returns-clause-is c =
    let a = c.args in
    by_game (net_of a.net.now) a.sides.now a.place a.count a.turns (sym c.in_ok-test_net.ensures) (sym c.any_timed.ensures ∙ c.if-any_timed.false)
    (sym c.sides_fit.ensures ∙ c.if-not-sides_fit.false) (sym c.turns_fit.ensures ∙ c.if-not-turns_fit.false) c.if-net-place.false
    (fault_of c.accepted_game.result) c.accepted_game.ensures

pub returns-clause-exactly : goal.returns-clause-exactly
returns-clause-exactly c =
    let a = c.args in
    let few = turns_few a.turns (sym c.turns_fit.ensures ∙ c.if-not-turns_fit.false) in
    answer_exactly (net_of a.net.now) a.sides.now a.place a.count a.turns (fault_of c.accepted_game.result) c.accepted_game.ensures few.0 few.1
    (fitting a.net.now.transitions a.sides.now (sym c.sides_fit.ensures ∙ c.if-not-sides_fit.false))
