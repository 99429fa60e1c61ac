-- `put_cells` meets its contract: where a cell does not fit, none behind it is written.
use mathlib.Core.Path.{ap, ◌∙◌}
use Prim.Native.Nat.{ℕ}
use Rattle.std.specs.Prelude.{Option, Some}
use Rattle.result_text.proofs.Steps.{stopped_at}
use Rattle.result_text.proofs.put_cells.Goals as goal

pub returns-in_err-end : goal.returns-in_err-end
returns-in_err-end c =
    let l = c.loop-x in
    ap (λ (r : Option ℕ). (c.put_cell.new.out, r)) c.from_residual.ensures
    ∙ stopped_at (l.out, Some l.end) c.args.row.now l.x-index _ c.loop-x-test.true c.in_err-end.ensures
    ∙ l.invariant
