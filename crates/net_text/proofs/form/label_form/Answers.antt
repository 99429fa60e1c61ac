-- A space stands behind the capacity, and then the line's last byte decides (Labels).
use Rattle.std.proofs.Common.{[], ◌∷◌, Some, None}
use Rattle.std.proofs.lemmas.Bool.Decides.{Decides-eqb}
use Rattle.std.proofs.lemmas.Slice.Eq.{strip_suffix_is}
use Rattle.net_text.proofs.Labels.{no_label, a_label}
use Rattle.net_text.proofs.form.label_form.Goals as goal

pub returns-in_err-label : goal.returns-in_err-label
returns-in_err-label c =
    let ends = c.in_err-label.ensures.cases in
    rw c.from_residual.ensures
    (no_label c.args.line.now c.in-Some.rest.now c.in-Some.ensures (strip_suffix_is Decides-eqb c.in-Some.rest.now (41 ∷ []) None ends))

pub returns-in-Some : goal.returns-in-Some
returns-in-Some c =
    let ends = c.in_ok-label.ensures.cases in
    a_label c.args.line.now c.in-Some.rest.now c.in-Some.ensures c.in_ok-label.label.now
    (strip_suffix_is Decides-eqb c.in-Some.rest.now (41 ∷ []) (Some c.in_ok-label.label) ends)
