-- What path_until ensures of the fields and words lent, told and written by leave.
use mathlib.Core.Path.{ap, ◌∙◌}
use Rattle.rng.specs.State.{words}
use Rattle.ssa.specs.Halted.{Call}
use Rattle.c_face.proofs.Written.{left_by}
use Rattle.c_face.proofs.halted.cild_path_until.Goals as goal

pub returns : goal.returns
returns c =
    let p = c in
    let e = rw p.from_state.ensures at p.path_until-r.ensures in
    record { is = (left_by e (c.leave.ensures _), ap words c.state.ensures ∙ ap (λ (x : Call). x.state.now.generator) e) }
