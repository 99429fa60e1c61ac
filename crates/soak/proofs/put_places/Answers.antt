-- `put_places` meets its contract. The invariant: what is left of the places, written from here, is all of them written; and the choices left from here
-- lead to the generator behind all of them.
use mathlib.Core.Path.{◌≡◌, ◌∙◌}
use native.Mathlib.Omega.{arith}
use Prim.Native.Nat.{◌+◌, ◌-◌}
use Rattle.std.specs.Prelude.{Some}
use Rattle.rng.specs.State.{words}
use Rattle.soak.specs.Words.{places_words}
use Rattle.soak.proofs.Steps.{short, place_turn, after_turn}
use Rattle.soak.proofs.put_places.Goals as goal

pub loop-number-preserved : goal.loop-number-preserved
loop-number-preserved c =
    let l = c.loop-number in
    let places = c.args.places in
    let drawn = c.draw-initial.ensures in (
      place_turn (l.out, Some l.end) _ places l.number (words l.rng.s) _ _ c.loop-number-test.true drawn.0 drawn.1 c.in_ok-end.ensures ∙ l.invariant.0,
      after_turn places l.number (words l.rng.s) _ c.loop-number-test.true drawn.1 ∙ l.invariant.1,
    )

pub returns-in_err-end-clause-told : goal.returns-in_err-end-clause-told
returns-in_err-end-clause-told c =
    let l = c.loop-number in
    let places = c.args.places in
    let drawn = c.draw-initial.ensures in
    short c.put_place.new.out (places_words (l.number + 1) (places - (l.number + 1)) (words c.draw-initial.new.rng.s)) c.from_residual.ensures
    ∙ place_turn (l.out, Some l.end) _ places l.number (words l.rng.s) _ _ c.loop-number-test.true drawn.0 drawn.1 c.in_err-end.ensures
    ∙ l.invariant.0

pub returns-clause-told : goal.returns-clause-told
returns-clause-told c =
    let none : c.args.places - c.loop-number.number ≡ 0 = omega arith in
    rw none at c.loop-number.invariant.0
