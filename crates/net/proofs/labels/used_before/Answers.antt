-- The invariant: the test of the labels that are left is that of all. Assumes nothing.
use mathlib.Core.Path.{sym, ap, ◌∙◌}
use Rattle.text.specs.Text.{Bytes, same}
use Rattle.net.specs.Labels.{label_at}
use Rattle.net.proofs.Slots.{or_stop, or_go}
use Rattle.net.proofs.Naming.{labels_turn}
use Rattle.net.proofs.labels.used_before.Goals as goal

pub returns-then-labelled : goal.returns-then-labelled
returns-then-labelled c =
    let s = c.args in
    or_stop _ _ (labels_turn (same (label_at s.label.now s.lengths.now s.p)) s.label.now s.lengths.now c.loop-q.q s.p c.loop-q-test.true c.loop-q.invariant)
    (sym (c.labelled.ensures ∙ ap (λ (l : Bytes). same l (label_at s.label.now s.lengths.now c.loop-q.q)) c.label_of-own.ensures) ∙ c.if-labelled.true)

pub loop-q-preserved : goal.loop-q-preserved
loop-q-preserved c =
    let s = c.args in
    or_go _ _ (labels_turn (same (label_at s.label.now s.lengths.now s.p)) s.label.now s.lengths.now c.loop-q.q s.p c.loop-q-test.true c.loop-q.invariant)
    (sym (c.labelled.ensures ∙ ap (λ (l : Bytes). same l (label_at s.label.now s.lengths.now c.loop-q.q)) c.label_of-own.ensures) ∙ c.if-labelled.false)
