-- `c_face::generator::cild_step_back` meets its contract: it is what `step_back` ensures of the words lent. Assumes nothing.
use mathlib.Core.Path.{ap, ◌∙◌}
use Rattle.rng.specs.State.{words}
use Rattle.rng.specs.Laws.{step_back}
use Rattle.c_face.proofs.generator.cild_step_back.Goals as goal

pub returns : goal.returns
returns c =
    let m = c in
    ap words c.state.ensures ∙ m.step_back-rng.ensures.0 ∙ ap (λ s. step_back (words s)) m.from_state.ensures
