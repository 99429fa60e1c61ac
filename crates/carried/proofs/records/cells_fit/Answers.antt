-- The cells of a place end where the next one's begin, so they are in the table.
use Rattle.std.proofs.Common.{not, ap, arith}
use native.Mathlib.Nat.{sub-zero}
use Rattle.carried.proofs.Cells.{cells_in, place_stop, place_go, places_end}
use Rattle.carried.proofs.records.cells_fit.Goals as goal

pub loop-p-init : goal.loop-p-init
loop-p-init c = rw sub-zero

pub overflow_mul-from : goal.overflow_mul-from
overflow_mul-from c = record { fits = omega (arith, cells_in c.loop-p.p c.args.places c.args.n c.args.recorded c.loop-p-test.true c.requires.0) }

pub returns-then-not-all_fit : goal.returns-then-not-all_fit
returns-then-not-all_fit c =
    let s = c.args in
    place_stop s.n s.recorded s.table.now c.loop-p.p s.places c.loop-p.invariant (omega arith) c.all_fit.ensures (ap not c.if-not-all_fit.true)

pub loop-p-preserved : goal.loop-p-preserved
loop-p-preserved c =
    let s = c.args in
    place_go s.n s.recorded s.table.now c.loop-p.p s.places c.loop-p.invariant (omega arith) c.all_fit.ensures (ap not c.if-not-all_fit.false)

pub returns : goal.returns
returns c =
    let s = c.args in
    places_end s.n s.recorded s.table.now c.loop-p.p s.places c.loop-p.invariant (omega arith)
