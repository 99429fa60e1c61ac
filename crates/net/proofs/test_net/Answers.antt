-- By a place, by there being none, or by a transition. Assumes nothing.
use mathlib.Core.Path.{sym}
use Rattle.std.proofs.lemmas.Result.{err_from_is_err_and}
use Rattle.net.specs.Record.{net_of}
use Rattle.net.proofs.Faults.{by_place, by_none, by_moves}
use Rattle.net.proofs.test_net.Goals as goal

pub returns-in_err-places_fault : goal.returns-in_err-places_fault
returns-in_err-places_fault c =
    let p = err_from_is_err_and c.from_residual.result c.from_residual.ensures.1 in
    rw (p.1, p.2) (by_place (net_of c.args.net.now) (sym c.in_err-places_fault.ensures))

pub returns-then-net-eq0 : goal.returns-then-net-eq0
returns-then-net-eq0 c = by_none (net_of c.args.net.now) (sym c.in_ok-places_fault.ensures) c.if-net-eq0.true

pub returns : goal.returns
returns c = by_moves (net_of c.args.net.now) (sym c.in_ok-places_fault.ensures) c.if-net-eq0.false c.transitions_fault.ensures
