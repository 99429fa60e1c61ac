-- No transition before j is chosen, by the kept sums (`reached`): so the one at which the loop stops is, and at the end the last positive one. Assumes nothing.

use native.Mathlib.Omega.{arith}
use Rattle.jump.proofs.Choosing.{stop_chosen, fail_chosen}
use Rattle.jump.proofs.sums.choose_by_sums.Goals as goal

pub returns-then-props-j : goal.returns-then-props-j
returns-then-props-j c =
    let a = c.args in
    stop_chosen a.transitions a.props.now (omega arith) a.r a.sums.now c.requires.2 c.loop-j.j c.loop-j-test.true c.if-props-j.true c.if-r-sums.true c.loop-j.invariant

pub returns : goal.returns
returns c =
    let a = c.args in
    fail_chosen a.transitions a.props.now (omega arith) a.r a.sums.now c.requires.2
    (λ i h. c.loop-j.invariant i (omega arith)) c.last_positive.result c.last_positive.ensures
