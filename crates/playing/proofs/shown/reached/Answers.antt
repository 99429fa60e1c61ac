-- The loop keeps what is still reached from here: next plus the instants reached from next on is i plus those reached from i on.
use Rattle.playing.proofs.Playing.{reached_turn, reached_none}
use native.Mathlib.Omega.{arith}
use Rattle.playing.proofs.shown.reached.Goals as goal

pub loop-i-preserved : goal.loop-i-preserved
loop-i-preserved c =
    let e = rw c.if-not-instants-i.false at (reached_turn c.args.clock c.args.instants.now c.loop-i.i c.loop-i-test.true) in
    omega (arith, c.loop-i.invariant, e)

pub returns-then-not-instants-i : goal.returns-then-not-instants-i
returns-then-not-instants-i c =
    let e = rw c.if-not-instants-i.true at (reached_turn c.args.clock c.args.instants.now c.loop-i.i c.loop-i-test.true) in
    omega (arith, c.loop-i.invariant, e)

pub returns : goal.returns
returns c =
    let e = reached_none c.args.clock c.args.instants.now c.loop-i.i c.loop-i-test.false in
    omega (arith, c.loop-i.invariant, e)
