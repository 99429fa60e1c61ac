-- Each answer is the definition's by the tests that led to it (Asked). Assumes nothing.
use mathlib.Core.Path.{sym, ◌∙◌}
use Rattle.game.proofs.Asked.{not_long, not_each, not_few, few_enough}
use Rattle.game.proofs.accept.sides_fit.Goals as goal

pub returns-then-sides-transitions : goal.returns-then-sides-transitions
returns-then-sides-transitions c = let a = c.args in not_long a.transitions a.sides.now c.if-sides-transitions.true

pub returns-then-not-each_side : goal.returns-then-not-each_side
returns-then-not-each_side c =
    let e = c in
    let a = e.args in
    not_each a.transitions a.sides.now e.if-sides-transitions.false (sym e.each_side.ensures ∙ c.if-not-each_side.true)

pub returns-then-f-gt-MOST_OF_A_SIDE : goal.returns-then-f-gt-MOST_OF_A_SIDE
returns-then-f-gt-MOST_OF_A_SIDE c =
    let f = c in
    let e = f in
    let a = e.args in
    not_few a.transitions a.sides.now e.if-sides-transitions.false (sym e.each_side.ensures ∙ f.if-not-each_side.false) f.faults-f.result
    f.faults-f.ensures.0 c.if-f-gt-MOST_OF_A_SIDE.true

pub returns : goal.returns
returns c =
    let f = c in
    let e = f in
    let a = e.args in
    few_enough a.transitions a.sides.now e.if-sides-transitions.false (sym e.each_side.ensures ∙ f.if-not-each_side.false) f.faults-f.result
    f.faults-f.ensures.0 c.if-f-gt-MOST_OF_A_SIDE.false
