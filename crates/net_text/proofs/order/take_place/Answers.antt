-- A test of the numbers applies, behind no move.
use Rattle.std.proofs.lemmas.Result.{err_from_is_err_and}
use Rattle.net_text.proofs.Taking.{numbers_refused}
use Rattle.net_text.proofs.order.take_place.Goals as goal

pub returns-in_err-place_fault : goal.returns-in_err-place_fault
returns-in_err-place_fault c =
    let p = err_from_is_err_and c.from_residual.result c.from_residual.ensures.1 in
    rw (p.1, p.2) (numbers_refused c.args.place.now c.args.net.now c.args.net.now _ c.if-net-gt0.false c.in_err-place_fault.ensures)
