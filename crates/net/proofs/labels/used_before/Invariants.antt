-- The invariant: the test of the labels that are left is that of all. Assumes nothing.
use Prim.Native.Nat.{◌-◌}
use mathlib.Core.Path.{◌≡◌}
use Rattle.text.specs.Text.{same}
use Rattle.net.specs.Tests.{any}
use Rattle.net.specs.Labels.{label_at, labels_from}
use Rattle.net.proofs.labels.used_before.Given as goal

abbrev pub invariant-loop-q : goal.invariant-loop-q
invariant-loop-q l =
    any (same (label_at l.label l.lengths l.p)) (labels_from l.label l.lengths l.q (l.p - l.q)) ≡ any (same (label_at l.label l.lengths l.p)) (labels_from l.label l.lengths 0 l.p)
