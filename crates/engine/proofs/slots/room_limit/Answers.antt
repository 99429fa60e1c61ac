-- Each arm is the arm of the definition that the tests leave; where q is below what is put in excess, the difference is 0. Assumes nothing.
use native.Mathlib.Omega.{arith}
use borrow.Author.Tests.{eq-eqb, ne_eqb, le-leb, lt-leb}
use Rattle.engine.proofs.slots.room_limit.Goals as goal

pub returns-then-q-eq0 : goal.returns-then-q-eq0
returns-then-q-eq0 c = simp (eq-eqb _ _ c.if-q-eq0.true)

pub returns-then-put-taken : goal.returns-then-put-taken
returns-then-put-taken c = simp (ne_eqb _ _ c.if-q-eq0.false, le-leb _ _ c.if-put-taken.true)

pub returns-then-q-more : goal.returns-then-q-more
returns-then-q-more c =
    let s = c.args in
    simp (ne_eqb _ _ c.if-q-eq0.false, lt-leb s.c.put s.c.taken (omega arith)) (omega arith)

pub returns : goal.returns
returns c =
    let s = c.args in
    simp (ne_eqb _ _ c.if-q-eq0.false, lt-leb s.c.put s.c.taken (omega arith)) (omega arith)
