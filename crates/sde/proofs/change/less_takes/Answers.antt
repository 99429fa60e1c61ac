-- What is left, on top of d, comes to the whole. Assumes nothing.
use Rattle.sde.proofs.Changes.{less_turn, less_end}
use native.Mathlib.Omega.{arith}
use mathlib.Core.Path.{refl, ◌∙◌}
use Rattle.sde.proofs.change.less_takes.Goals as goal

pub loop-a-init : goal.loop-a-init
loop-a-init c = (omega arith, refl)

pub less-d-requires : goal.less-d-requires
less-d-requires c =
    let l = c in
    l.requires.1 l.loop-a.a l.loop-a.invariant.0 c.loop-a-test.true

pub loop-a-preserved : goal.loop-a-preserved
loop-a-preserved c =
    let l = c in
    let s = l.args in (
      omega arith,
      less_turn s.net.now.kind.now s.net.now.place.now s.net.now.weight.now l.loop-a.a s.end s.p l.loop-a.d c.loop-a-test.true c.less-d.result c.less-d.ensures
          ∙ l.loop-a.invariant.1,
    )

pub returns : goal.returns
returns c =
    let l = c in
    let s = l.args in
    less_end s.net.now.kind.now s.net.now.place.now s.net.now.weight.now l.loop-a.a s.end s.p l.loop-a.d c.loop-a-test.false ∙ l.loop-a.invariant.1
