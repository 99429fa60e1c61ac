-- The state below p is the initial counts; the cast to a signed number keeps a count of at most 2 ^ 53. Assumes nothing.
use lib.ListN.{get_or}
use lib.Dec.{T}
use lib.IntN.{ℤ}
use lib.Ieee.{Float, binary64, in_float, of_int}
use mir.Syntax.{w64}
use mir.Val.{to_z}
use mir.Facts.{to_z_pos}
use Rattle.combinations.proofs.Product.{in_f64}
use Rattle.rules.specs.Propensity.{float}
use Rattle.sde.proofs.Each.{map_none, map_more, map_all}
use native.Mathlib.Omega.{arith}
use mathlib.Core.Path.{ap, subst⁻¹}
use Prim.Native.Nat.{ℕ}
use Rattle.sde.proofs.walk.first_state.Goals as goal

pub loop-p-init : goal.loop-p-init
loop-p-init c = map_none _ _

pub overflow_cast-x : goal.overflow_cast-x
overflow_cast-x c = omega (arith, c.requires.1 c.loop-p.p c.loop-p-test.true)

pub int_to_float-x : goal.int_to_float-x
int_to_float-x c =
    let h = c.requires.1 c.loop-p.p c.loop-p-test.true in
    subst⁻¹ (λ (z : ℤ). T (in_float binary64 z)) (to_z_pos w64 (omega arith)) (in_f64 _ h)

pub loop-p-preserved : goal.loop-p-preserved
loop-p-preserved c =
    let n = c.args.initial.now in
    let h = c.requires.1 c.loop-p.p c.loop-p-test.true in
    map_more (λ (q : ℕ) (v : Float). float (get_or n q 0)) c.loop-p.p c.args.x.now c.loop-p.x (of_int binary64 (to_z w64 (get_or n c.loop-p.p 0)))
    (omega (arith, c.loop-p.invariant.long)) (ap (of_int binary64) (to_z_pos w64 (omega (arith, h)))) c.loop-p.invariant

pub returns : goal.returns
returns c =
    map_all (λ (q : ℕ) (v : Float). float (get_or c.args.initial.now q 0)) c.args.places c.loop-p.p c.args.x.now c.loop-p.x (omega arith) c.requires.0
    c.loop-p-test.false c.loop-p.auto.p-end c.loop-p.invariant
