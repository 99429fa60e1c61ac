-- Each return rewrites the definition by the test of the realizations. A whole number of at most 65,535 is a float. Assumes nothing.
use borrow.Author.Tests.{eq-eqb, ne_eqb}
use Prim.Native.Nat.{◌^◌}
use native.Mathlib.Omega.{arith}
use mathlib.Core.Path.{sym, ap, ◌∙◌}
use mathlib.Core.Bool.{Bool, not}
use lib.Dec.{le→leb}
use lib.Ieee.{in_float}
use Rattle.net.specs.Net.{pick}
use Rattle.rules.specs.Propensity.{float}
use Rattle.averages.specs.Front.{with_front}
use Rattle.averages.specs.Moments.{deviation_of}
use Rattle.playing.specs.Cells.{cleared}
use Rattle.ssa.proofs.averaging.finish.Goals as goal

pub int_to_float-n : goal.int_to_float-n
unfolding in_float
int_to_float-n c = le→leb c.args.realizations (2 ^ 53) (omega (arith, c.requires.0))

pub returns-then-realizations-eq1 : goal.returns-then-realizations-eq1
returns-then-realizations-eq1 c =
    let a = c.args in
    let m = c.to_means in
    let e = eq-eqb a.realizations 1 c.if-realizations-eq1.true in (
      sym (ap not e),
      m.ensures,
      c.clear.ensures
          ∙ sym (ap (λ (b : Bool). pick b (cleared a.cells a.deviation.now) (with_front (deviation_of (float a.realizations)) a.cells m.new.sums a.deviation.now)) e),
    )

pub returns : goal.returns
returns c =
    let a = c.before.args in
    let m = c.to_means in
    let e = ne_eqb a.realizations 1 c.if-realizations-eq1.false in (
      sym (ap not e),
      m.ensures,
      c.to_deviations.ensures
          ∙ sym (ap (λ (b : Bool). pick b (cleared a.cells a.deviation.now) (with_front (deviation_of (float a.realizations)) a.cells m.new.sums a.deviation.now)) e),
    )
