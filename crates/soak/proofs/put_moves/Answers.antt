-- `put_moves` meets its contract. The invariant: what is left of the transitions, written from here, is all of them written.
use mathlib.Core.Path.{◌≡◌, ◌∙◌}
use native.Mathlib.Omega.{arith}
use Prim.Native.Nat.{◌+◌, ◌-◌}
use Rattle.std.specs.Prelude.{Some}
use Rattle.rng.specs.State.{words}
use Rattle.soak.specs.Words.{moves_words}
use Rattle.soak.proofs.Steps.{short, move_turn}
use Rattle.soak.proofs.put_moves.Goals as goal

pub loop-preserved : goal.loop-preserved
loop-preserved c =
    let l = c.loop in
    let a = c.args in
    let taken = c.draw.ensures in
    let put = c.draw-in-loop.ensures in
    let rate = c.draw-rate.ensures in
    move_turn (l.out, Some l.end) _ a.places a.transitions l.counter (words l.rng.s) _ _ _ _ _ _ c.loop-test.true taken.0 taken.1 put.0 put.1 rate.0 rate.1 c.in_ok-end.ensures
    ∙ l.invariant

pub returns-in_err-end : goal.returns-in_err-end
returns-in_err-end c =
    let l = c.loop in
    let a = c.args in
    let taken = c.draw.ensures in
    let put = c.draw-in-loop.ensures in
    let rate = c.draw-rate.ensures in
    short c.put_move.new.out (moves_words a.places (a.transitions - (l.counter + 1)) (words c.draw-rate.new.rng.s)) c.from_residual.ensures
    ∙ move_turn (l.out, Some l.end) _ a.places a.transitions l.counter (words l.rng.s) _ _ _ _ _ _ c.loop-test.true taken.0 taken.1 put.0 put.1 rate.0 rate.1 c.in_err-end.ensures
    ∙ l.invariant

pub returns : goal.returns
returns c =
    let none : c.args.transitions - c.loop.counter ≡ 0 = omega arith in
    rw none at c.loop.invariant
