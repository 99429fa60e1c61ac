-- `put_cells` meets its contract. The invariant: what is left of the row, written from here, is the whole row written.
use mathlib.Core.Path.{◌≡◌}
use lib.ListN.{drop}
use Rattle.std.specs.Prelude.{Some}
use Rattle.result_text.specs.Parts.{then_cells}
use Rattle.result_text.proofs.put_cells.Given as goal

abbrev pub invariant-loop-x : goal.invariant-loop-x
invariant-loop-x l = then_cells (l.out, Some l.end) (drop l.x-index l.row) ≡ then_cells (l.initial.out, Some l.at) l.row
