-- `put_move` meets its contract: the rest of the words stands behind the first three.
use mathlib.Core.Path.{ap, ◌∙◌}
use Rattle.text.specs.Text.{bytes}
use Rattle.text.specs.Numbers.{float_text}
use Rattle.text.specs.Buffer.{and_then}
use Rattle.soak.specs.Soak.{rate_from}
use Rattle.soak.specs.Words.{then_all, arc_words}
use Rattle.soak.proofs.Steps.{Left}
use Rattle.soak.proofs.put_move.Goals as goal

pub returns : goal.returns
returns c =
    let a = c.args in
    let rated = rw c.rate_of.ensures at c.in_ok-rated.ensures in
    c.put_arcs.ensures
    ∙ ap (λ (x : Left). then_all x (arc_words a.taken a.put))
    (c.in_ok-undelayed.ensures
    ∙ ap (λ (x : Left). and_then x (bytes " 0000000000000000 (take "))
    (rated ∙ ap (λ (x : Left). and_then x (float_text (rate_from a.rate))) c.in_ok-word.ensures))
