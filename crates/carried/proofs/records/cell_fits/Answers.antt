-- In 0..2^53 the cell is cut and cast within their ranges, and the comparison is the definition's; elsewhere the definition says no.
use Rattle.std.proofs.Common.{T, sym, subst, arith}
use Prim.{tt}
use Rattle.engine.proofs.OneWay.{count_fits}
use Rattle.carried.proofs.Cells.{above, below, small, whole_cell, too_large, below_zero}
use Rattle.carried.proofs.records.cell_fits.Goals as goal

pub truncating_f64_to_u64-requires : goal.truncating_f64_to_u64-requires
truncating_f64_to_u64-requires c =
    let x = c.args.x in
    let low = c.if-x.true in
    record { lower_bound = subst T (sym (above x low)) tt; upper_bound = subst T (sym (below x low c.if-x-2.true)) tt }

pub int_to_float-result : goal.int_to_float-result
int_to_float-result c =
    let f = c in
    count_fits _ (omega (arith, c.truncating_f64_to_u64.ensures, small f.args.x f.if-x.true f.if-x-2.true))

pub returns-then-x-2 : goal.returns-then-x-2
returns-then-x-2 c =
    let f = c in
    whole_cell f.args.x f.if-x.true f.if-x-2.true c.truncating_f64_to_u64.ensures

pub returns-else-x-2 : goal.returns-else-x-2
returns-else-x-2 c = too_large c.args.x c.if-x-2.false

pub returns-else-x : goal.returns-else-x
returns-else-x c = below_zero c.args.x c.if-x.false
