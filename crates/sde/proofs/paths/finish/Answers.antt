-- The means, and the deviations by the means; none of one path. Assumes nothing.
use native.Mathlib.Omega.{arith}
use borrow.Author.Tests.{eq-eqb, ne_eqb}
use Rattle.combinations.proofs.Product.{in_f64}
use Rattle.sde.proofs.paths.finish.Goals as goal

pub int_to_float-r : goal.int_to_float-r
int_to_float-r c = in_f64 _ (omega (arith, c.requires))

pub returns-then-realizations-eq1 : goal.returns-then-realizations-eq1
returns-then-realizations-eq1 c = (simp (eq-eqb _ _ c.if-realizations-eq1.true), c.to_means.ensures, simp (eq-eqb _ _ c.if-realizations-eq1.true) c.clear.ensures)

pub returns : goal.returns
returns c = (simp (ne_eqb _ _ c.if-realizations-eq1.false), c.to_means.ensures, simp (ne_eqb _ _ c.if-realizations-eq1.false) c.to_deviations.ensures)
