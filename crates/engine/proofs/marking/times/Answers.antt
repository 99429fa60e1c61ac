-- Each return is the definition's case by the tests on the way; 2^64 less one takes one token, in as many ways as there are tokens (OneWay).
-- Assumes nothing.
use mathlib.Core.Path.{◌≡◌, sym, ap, ◌∙◌, subst⁻¹}
use mathlib.Core.Bool.{Bool}
use Prim.Native.Nat.{ℕ, ◌+◌, ◌-◌}
use native.Mathlib.Omega.{arith}
use lib.Dec.{T}
use lib.IntN.{ℤ, pos}
use lib.Ieee.{binary64, in_float, of_int, mul}
use mir.Syntax.{w64}
use mir.Val.{to_z}
use mir.Facts.{to_z_pos}
use borrow.Author.Tests.{eq-eqb, ne_eqb}
use Rattle.net.specs.Net.{pick}
use Rattle.rules.specs.Propensity.{ways}
use Rattle.engine.specs.Limits.{at_least}
use Rattle.engine.proofs.OneWay.{count_fits, one_way}
use Rattle.engine.proofs.marking.times.Goals as goal

pub int_to_float-result : goal.int_to_float-result
int_to_float-result c =
    let s = c in
    subst⁻¹ (λ (z : ℤ). T (in_float binary64 z)) (to_z_pos w64 (omega arith)) (count_fits s.args.count s.requires.0)

pub returns-then-limit-eq18446744073709551615 : goal.returns-then-limit-eq18446744073709551615
returns-then-limit-eq18446744073709551615 c =
    let s = c in
    let x = s.args.x in
    let count = s.args.count in
    let a : to_z w64 count ≡ pos count = to_z_pos w64 (omega arith) in
    let one : 1 ≡ at_least s.args.limit = omega (arith, c.if-limit-eq18446744073709551615.true) in
    ap (λ (z : ℤ). mul binary64 x (of_int binary64 z)) a
    ∙ ap (mul binary64 x) (sym (one_way count s.requires.0))
    ∙ ap (λ (w : ℕ). mul binary64 x (ways count w)) one
    ∙ sym (ap (λ (b : Bool). pick b (mul binary64 x (ways count (at_least s.args.limit))) x) (eq-eqb s.args.kind 0 c.if-kind-eq-KINETIC_TAKE.true))

pub overflow_add-limit : goal.overflow_add-limit
overflow_add-limit c = omega (arith, c.requires.1 c.if-kind-eq-KINETIC_TAKE.true)

pub ways-requires : goal.ways-requires
ways-requires c =
    let s = c in
    (s.requires.0, omega (arith, s.requires.1 c.if-kind-eq-KINETIC_TAKE.true))

pub returns-then-kind-eq-KINETIC_TAKE : goal.returns-then-kind-eq-KINETIC_TAKE
returns-then-kind-eq-KINETIC_TAKE c =
    let s = c in
    let same : 0xFFFF_FFFF_FFFF_FFFF - s.args.limit + 1 ≡ at_least s.args.limit = omega (arith, s.ranges.limit) in
    ap (mul binary64 s.args.x) (c.ways.ensures ∙ ap (ways s.args.count) same)
    ∙ sym (ap (λ (b : Bool). pick b (mul binary64 s.args.x (ways s.args.count (at_least s.args.limit))) s.args.x) (eq-eqb s.args.kind 0 c.if-kind-eq-KINETIC_TAKE.true))

pub returns : goal.returns
returns c = simp (ne_eqb _ _ c.if-kind-eq-KINETIC_TAKE.false)
