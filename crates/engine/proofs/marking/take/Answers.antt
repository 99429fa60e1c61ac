-- The taking that is left comes to the whole (proofs/Moving), and the words hold what it may have changed (proofs/Touching). Assumes nothing.
use Prim.Native.Nat.{◌-◌, ◌*◌}
use mathlib.Core.Path.{◌≡◌, sym, ◌∙◌}
use native.Mathlib.Omega.{arith}
use lib.ListN.{get_or}
use Rattle.net.specs.Record.{net_of}
use Rattle.engine.specs.Guards.{takes_on}
use Rattle.engine.proofs.Marks.{set_same}
use Rattle.engine.proofs.Moving.{taking_none, taking_turn}
use Rattle.engine.proofs.Touching.{take_touches, told_none, told_same, told_more}
use Rattle.engine.proofs.marking.take.Goals as goal
use Rattle.engine.proofs.marking.take.Goals.{then-x-gt0, else-x-gt0}

pub loop-a-init : goal.loop-a-init
loop-a-init c =
    let s = c.args in
    let n = net_of s.net.now in (
      taking_none n.places n.kind n.place n.weight s.counts.now (16 * s.j) (get_or n.arcs s.j 0) c.requires.5 (c.requires.2 s.j),
      told_none takes_on n s.j s.guards.now s.counts.now,
    )

pub loop-a-preserved : goal.loop-a-preserved
loop-a-preserved c =
    let x = c.taken_from-x in
    let l = c.loop-a in
    let s = c.args in
    let n = net_of s.net.now in
    let p = get_or n.place l.a 0 in
    let count = get_or l.counts p 0 in
    let small = l.invariant.0.good.small p in
    elim c.if-x-gt0.branch [
      | then-x-gt0 w ↦ (
        taking_turn _ _ _ _ _ _ _ _ _ c.loop-a-test.true c.requires.1 (c.requires.3 l.a) (c.requires.4 l.a) x.result _ l.invariant.0 x.ensures _ _ w.counts-is w.less-is,
        told_more takes_on n s.j _ _ _ _ _ l.invariant.1 l.invariant.0.good p (count - x.result) (count - x.result) count w.crossed-crossed.result
            (λ m. take_touches n.arcs n.kind n.place n.weight s.j l.a l.auto.a c.loop-a-test.true count x.result w.if-x-gt0.true x.ensures)
            (c.requires.3 l.a) (omega arith) (omega arith) (omega arith) (omega arith) small w.crossed-crossed.ensures _ _ _ w.counts-is w.moved-is w.crossed-is,
      )
      | else-x-gt0 w ↦
          let none : count - x.result ≡ count = omega (arith, w.if-x-gt0.false) in (
            taking_turn _ _ _ _ _ _ _ _ _ c.loop-a-test.true c.requires.1 (c.requires.3 l.a) (c.requires.4 l.a) x.result _ l.invariant.0 x.ensures _ _
                (w.counts-is ∙ sym (set_same l.counts p (count - x.result) none)) (omega (arith, w.if-x-gt0.false, w.less-is)),
            told_same takes_on n s.j _ _ _ _ _ l.invariant.1 _ _ _ w.counts-is w.moved-is w.crossed-is,
          )
    ]
