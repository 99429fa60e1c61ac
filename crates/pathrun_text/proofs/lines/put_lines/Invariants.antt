-- `put_lines` meets its contract. The invariant: what is left of the table, written from here, is the whole table written.
use mathlib.Core.Path.{◌≡◌}
use Prim.Native.Nat.{◌-◌, ◌*◌, ◌≤◌}
use lib.ListN.{length}
use Rattle.std.specs.Prelude.{Some}
use Rattle.net.specs.Labels.{labels_from}
use Rattle.pathrun_text.specs.Pathrun.{rows}
use Rattle.pathrun_text.specs.Printing.{then_lines}
use Rattle.pathrun_text.proofs.lines.put_lines.Given as goal

abbrev pub invariant-loop-p : goal.invariant-loop-p
invariant-loop-p l =
    (then_lines l.deviates (l.out, Some l.end) (labels_from l.net.label.now l.net.lengths.now l.p (l.net.places - l.p)) (rows (l.net.places - l.p) l.samples l.rest)
    ≡ then_lines l.deviates (l.initial.out, Some l.at) (labels_from l.net.label.now l.net.lengths.now 0 l.net.places) (rows l.net.places l.samples l.table))
    × ((l.net.places - l.p) * l.samples ≤ length l.rest)
