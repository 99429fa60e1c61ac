-- The table says of every slot its limit, or that a test may end there; from transition j on it is as it was. Assumes nothing.
use native.Mathlib.Omega.{arith}
use mathlib.Core.Path.{◌∙◌}
use mathlib.Core.Logic.{inr}
use Rattle.engine.proofs.Limits.{says_more}
use Rattle.engine.proofs.slots.mark_rests.Goals as goal

pub mark_rest-requires : goal.mark_rest-requires
mark_rest-requires c =
    let l = c in
    let s = l in
    (omega arith, omega (arith, c.loop-j-test.true, s.requires.0, s.requires.1 l.loop-j.j), l.loop-j.invariant.0)

pub loop-j-preserved : goal.loop-j-preserved
loop-j-preserved c =
    let l = c in
    let s = l in
    let m = c.mark_rest.ensures in (
      m.2.long ∙ l.loop-j.invariant.0,
      λ a h. m.2.outside a (inr (omega (arith, s.requires.1 l.loop-j.j))) ∙ l.loop-j.invariant.1 a (omega arith),
      says_more s.args.arcs.now s.args.limit.now l.loop-j.limit _ l.loop-j.j c.mark_rest.result s.requires.1 m.0 m.2 l.loop-j.invariant.1 l.loop-j.invariant.2,
    )
