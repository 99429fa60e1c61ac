-- `shown::write_cell` is safe: what is cut off is a fraction of a number in 0..2^53. Assumes nothing.
use Rattle.std.proofs.Common.{T, sym, subst}
use Prim.{tt}
use Rattle.carried.proofs.Cells.{above, below}
use Rattle.editionrun.proofs.shown.write_cell.Goals as goal

pub truncating_f64_to_u64-requires : goal.truncating_f64_to_u64-requires
truncating_f64_to_u64-requires c =
    let x = c.args.x in
    let low = c.if-x.true in
    record { lower_bound = subst T (sym (above x low)) tt; upper_bound = subst T (sym (below x low c.if-x-2.true)) tt }
