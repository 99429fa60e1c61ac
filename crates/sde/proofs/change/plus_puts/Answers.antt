-- What is left, on top of d, comes to the whole. Assumes nothing.
use Rattle.sde.proofs.Changes.{more_turn, more_end}
use native.Mathlib.Omega.{arith}
use mathlib.Core.Path.{refl, ◌∙◌}
use Rattle.sde.proofs.change.plus_puts.Goals as goal

pub loop-a-init : goal.loop-a-init
loop-a-init c = (omega arith, refl)

pub more-d-requires : goal.more-d-requires
more-d-requires c =
    let l = c in
    l.requires.1 l.loop-a.a l.loop-a.invariant.0 c.loop-a-test.true

pub loop-a-preserved : goal.loop-a-preserved
loop-a-preserved c =
    let l = c in
    let s = l.args in (
      omega arith,
      more_turn s.net.now.kind.now s.net.now.place.now s.net.now.weight.now l.loop-a.a s.end s.p l.loop-a.d c.loop-a-test.true c.more-d.result c.more-d.ensures
          ∙ l.loop-a.invariant.1,
    )

pub returns : goal.returns
returns c =
    let l = c in
    let s = l.args in
    more_end s.net.now.kind.now s.net.now.place.now s.net.now.weight.now l.loop-a.a s.end s.p l.loop-a.d c.loop-a-test.false ∙ l.loop-a.invariant.1
