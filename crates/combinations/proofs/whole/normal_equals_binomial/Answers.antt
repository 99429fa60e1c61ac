-- `normal_equals_binomial` is `exact`: the words and the twos are the same if the values are (`Decided`). Assumes nothing.
use native.Mathlib.Omega.{arith}
use Rattle.combinations.proofs.Decided.{alike, unlike, apart}
use Rattle.combinations.proofs.whole.normal_equals_binomial.Goals as goal

pub returns-then-l-r-2 : goal.returns-then-l-r-2
returns-then-l-r-2 c =
    let a = c.args in
    let h = c.requires in
    alike a.b a.m a.w h.0 h.1 h.2 c.times_factorial-l.ensures.0 c.falling_parts-r.ensures.0 c.if-l-r.true c.if-l-r-2.true

pub returns-else-l-r-2 : goal.returns-else-l-r-2
returns-else-l-r-2 c =
    let a = c.args in
    let h = c.requires in
    unlike a.b a.m a.w h.0 h.1 h.2 c.times_factorial-l.ensures.0 c.falling_parts-r.ensures.0 (λ e. c.if-l-r-2.false (apart (omega arith) (omega arith) e).1)

pub returns-else-l-r : goal.returns-else-l-r
returns-else-l-r c =
    let a = c.args in
    let h = c.requires in
    unlike a.b a.m a.w h.0 h.1 h.2 c.times_factorial-l.ensures.0 c.falling_parts-r.ensures.0 (λ e. c.if-l-r.false (apart (omega arith) (omega arith) e).0)
