-- A label of another length is not the same. Assumes nothing.
use Rattle.std.proofs.Common.{length, ◌∙◌, ap}
use Rattle.text.specs.Text.{same}
use Rattle.net.specs.Labels.{label_at}
use Rattle.net.proofs.Naming.{differ, length_apart}
use Rattle.net.proofs.labels.labelled.Goals as goal

pub returns-then-lengths-q : goal.returns-then-lengths-q
returns-then-lengths-q c =
    let s = c.args in
    differ length s.own.now (label_at s.label.now s.lengths.now s.q)
    (length_apart s.label.now s.lengths.now s.q (length s.own.now) c.told-label c.if-q-lt-MOST_PLACES.true c.if-n-gt0.true c.if-lengths-q.true)

pub returns : goal.returns
returns c = c.alike.ensures ∙ ap (same c.args.own.now) c.label_of.ensures
