-- The pairs that are left, from the generator so far, come to the whole. Assumes nothing.
use mathlib.Core.Path.{◌∙◌}
use Rattle.rng.specs.State.{words}
use Rattle.normals.specs.Normal.{pair_in}
use Rattle.normals.proofs.Pairs.{search_stop, search_go, search_end}
use Rattle.normals.proofs.first_accepted.Goals as goal

pub returns-then-accepted : goal.returns-then-accepted
returns-then-accepted c =
    let l = c.loop in
    search_stop 128 l.counter (words l.g.s) (pair_in c.drawn_pair-p.result) c.drawn_pair-p.ensures
    c.accepted.result c.accepted.ensures c.loop-test.true c.if-accepted.true
    ∙ l.invariant

pub loop-preserved : goal.loop-preserved
loop-preserved c =
    let l = c.loop in
    search_go 128 l.counter (words l.g.s) (pair_in c.drawn_pair-p.result) c.drawn_pair-p.ensures
    c.accepted.result c.accepted.ensures c.loop-test.true c.if-accepted.false
    ∙ l.invariant

pub returns : goal.returns
returns c = search_end 128 c.loop.counter (words c.loop.g.s) c.loop-test.false ∙ c.loop.invariant
