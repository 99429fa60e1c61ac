-- What the answer ensures, read as a flag and a float; w is passed on as it came.
use mathlib.Core.Path.{ap, ◌∙◌}
use mir.Facts.{to_z-of_z}
use Rattle.c_face.specs.Told.{is_real, real_or_zero}
use Rattle.c_face.proofs.leaves.cild_combinations_real.Goals as goal

pub returns : goal.returns
returns c =
    let s = c in
    let e = rw (to_z-of_z s.ranges.w) at c.combinations_real.ensures in
    (c.told.ensures.0 ∙ ap is_real e, c.told.ensures.1 ∙ ap real_or_zero e)
