-- What is left to test of the instants, from instant i on, is the whole test. Assumes nothing.
use mathlib.Core.Path.{◌≡◌}
use lib.ListN.{drop}
use Rattle.rules.specs.Shown.{rising, instants_fit}
use Rattle.ssa.proofs.accept.instants_fit.Given as goal

abbrev pub invariant-loop-i : goal.invariant-loop-i
invariant-loop-i l = rising l.low (drop l.i l.instants) ≡ instants_fit l.instants
