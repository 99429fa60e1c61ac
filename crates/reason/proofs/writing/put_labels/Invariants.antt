-- `put_labels` meets its contract. The invariant: the places that are left, written from here, are all of them written.
use mathlib.Core.Path.{◌≡◌}
use mathlib.Core.Bool.{true}
use mathlib.Core.List.{map}
use Rattle.std.specs.Prelude.{Some}
use Rattle.net.specs.Labels.{label_at}
use Rattle.gates.specs.Gated.{bits_from}
use Rattle.reason.specs.Parts.{then_labels}
use Rattle.reason.proofs.Cases.{left}
use Rattle.reason.proofs.writing.put_labels.Given as goal

abbrev pub invariant-loop-p : goal.invariant-loop-p
invariant-loop-p l =
    then_labels (l.out, Some l.end) l.first (left (label_at l.net.label.now l.net.lengths.now) l.p l.rest) ≡ then_labels (l.initial.out, Some l.at) true (map (label_at l.net.label.now l.net.lengths.now) (bits_from 0 64 l.mask))
