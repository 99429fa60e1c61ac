-- What the answer ensures, read as a flag and numbers; m and w are passed on as they came.
use mathlib.Core.Path.{sym, ap, ◌∙◌}
use mir.Facts.{to_z-of_z}
use Rattle.combinations.specs.Combinations.{meaning}
use Rattle.c_face.specs.Told.{is_value, or_zero, one_if_exact}
use Rattle.c_face.proofs.Flags.{flag}
use Rattle.c_face.proofs.leaves.cild_combinations.Goals as goal

pub returns-in-Some : goal.returns-in-Some
returns-in-Some c =
    let e = ap meaning (sym c.in-Some.is) ∙ (rw (to_z-of_z c.ranges.m, to_z-of_z c.ranges.w) at c.combinations.ensures) in
    (c.told.ensures.0 ∙ ap is_value e, c.told.ensures.1 ∙ ap or_zero e, c.from.ensures ∙ flag c.in-Some.x.exact ∙ ap one_if_exact e)

pub returns-in-None : goal.returns-in-None
returns-in-None c =
    let e = ap meaning (sym c.in-None.is) ∙ (rw (to_z-of_z c.ranges.m, to_z-of_z c.ranges.w) at c.combinations.ensures) in
    (c.told-in-None.ensures.0 ∙ ap is_value e, c.told-in-None.ensures.1 ∙ ap or_zero e, ap one_if_exact e)
