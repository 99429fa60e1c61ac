-- By the form that is met and what its tests answer (Taking).
use Rattle.std.proofs.lemmas.Result.{err_from_is_err_and}
use Rattle.net_text.proofs.Taking.{place_refused, place_accepted, run_behind, run_refused, run_accepted, move_met, move_refused, move_accepted}
use Rattle.net_text.proofs.order.inside_line.Goals as goal

pub returns-in_err-take_place : goal.returns-in_err-take_place
returns-in_err-take_place c =
    let p = err_from_is_err_and c.from_residual-in_err-take_place.result c.from_residual-in_err-take_place.ensures.1 in
    rw (p.1, p.2)
    (place_refused c.args.line.now c.args.net.now c.in-Some.place c.in-Some.left.now c.in-Some.ensures c.in_ok-whole_line.ensures c.take_place.new.net _
    c.in_err-take_place.ensures)

pub returns-in-Some : goal.returns-in-Some
returns-in-Some c =
    place_accepted c.args.line.now c.args.net.now c.in-Some.place c.in-Some.left.now c.in-Some.ensures c.in_ok-whole_line.ensures c.take_place.new.net _
    c.requires c.in_ok-take_place.ensures

pub returns-in_err-whole_line-2 : goal.returns-in_err-whole_line-2
returns-in_err-whole_line-2 c =
    let p = err_from_is_err_and c.from_residual-in_err-whole_line-2.result c.from_residual-in_err-whole_line-2.ensures.1 in
    let e = c.in_err-whole_line-2.ensures in
    rw (p.1, p.2, e.0)
    (run_behind c.args.line.now c.args.net.now c.in-Some-run_form.seen c.in-Some-run_form.left.now c.in-Some-run_form.ensures c.in_default.ensures
    c.args.net.now e.1)

pub returns-in_err-run_fault : goal.returns-in_err-run_fault
returns-in_err-run_fault c =
    let p = err_from_is_err_and c.from_residual-in_err-run_fault.result c.from_residual-in_err-run_fault.ensures.1 in
    rw (p.1, p.2)
    (run_refused c.args.line.now c.args.net.now c.in-Some-run_form.seen c.in-Some-run_form.left.now c.in-Some-run_form.ensures c.in_default.ensures
    c.in_ok-whole_line-2.ensures c.args.net.now _ c.in_err-run_fault.ensures)

pub returns-in-Some-run_form : goal.returns-in-Some-run_form
returns-in-Some-run_form c =
    run_accepted c.args.line.now c.args.net.now c.in-Some-run_form.seen c.in-Some-run_form.left.now c.in-Some-run_form.ensures c.in_default.ensures
    c.in_ok-whole_line-2.ensures c.requires c.in_ok-run_fault.ensures

pub returns-in_err-take_move : goal.returns-in_err-take_move
returns-in_err-take_move c =
    let p = err_from_is_err_and c.from_residual-in_err-take_move.result c.from_residual-in_err-take_move.ensures.1 in
    let r = move_met c.args.line.now c.first_slot-base.result c.args.net.now c.move_form.new.net c.move_form.result _ c.in_ok-seen.ensures.value c.move_form.ensures.is in
    rw (p.1, p.2)
    (move_refused c.args.line.now c.args.net.now c.first_slot-base.result c.move_form.new.net c.move_form.ensures.kept c.in_ok-seen.seen c.in_ok-seen.left.now r
    c.in_default.ensures c.requires c.first_slot-base.ensures.1 c.in_ok-whole_line-3.ensures c.take_move.new.net _ c.in_err-take_move.ensures)

pub returns : goal.returns
returns c =
    let r = move_met c.args.line.now c.first_slot-base.result c.args.net.now c.move_form.new.net c.move_form.result _ c.in_ok-seen.ensures.value c.move_form.ensures.is in
    move_accepted c.args.line.now c.args.net.now c.first_slot-base.result c.move_form.new.net c.move_form.ensures.kept c.in_ok-seen.seen c.in_ok-seen.left.now r
    c.in_default.ensures c.requires c.first_slot-base.ensures.1 c.in_ok-whole_line-3.ensures c.take_move.new.net _ c.in_ok-take_move.ensures
