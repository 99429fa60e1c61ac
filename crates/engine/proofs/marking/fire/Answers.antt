-- What is left to take and to put comes to the whole (proofs/Firing), and the words hold what it may have changed (proofs/Touching). Assumes nothing.
use Prim.Native.Nat.{◌+◌, ◌-◌, ◌*◌}
use mathlib.Core.Path.{◌≡◌, sym, ◌∙◌}
use native.Mathlib.Omega.{arith}
use lib.ListN.{get_or}
use borrow.Author.Tests.{eq-eqb, ne_eqb}
use Rattle.net.specs.Record.{net_of}
use Rattle.engine.specs.Guards.{moves_on}
use Rattle.engine.proofs.Marks.{set_same}
use Rattle.engine.proofs.Firing.{firing_none, firing_take, firing_put, firing_stop, firing_all}
use Rattle.engine.proofs.Touching.{fire_takes, fire_puts, told_none, told_same, told_more}
use Rattle.engine.proofs.marking.fire.Goals as goal
use Rattle.engine.proofs.marking.fire.Goals.{then-k-eq-PUT+else-d-gt9007199254740992, else-k-eq-PUT+then-y-gt0, else-k-eq-PUT+else-y-gt0}

pub loop-a-init : goal.loop-a-init
loop-a-init c =
    let s = c.args in
    let n = net_of s.net.now in (
      firing_none n.places n.kind n.place n.weight s.counts.now (16 * s.j) (get_or n.arcs s.j 0) c.requires.5 c.requires.6 (c.requires.2 s.j),
      told_none moves_on n s.j s.guards.now s.counts.now,
    )

pub returns-then-d-gt9007199254740992-clause-moves : goal.returns-then-d-gt9007199254740992-clause-moves
returns-then-d-gt9007199254740992-clause-moves c =
    let l = c.loop-a in
    firing_stop _ _ _ _ _ _ _ _ _ _ _ l.invariant.0 c.loop-a-test.true c.requires.1 (c.requires.3 l.a) (c.requires.4 l.a)
    (eq-eqb _ 2 c.if-k-eq-PUT.true) c.amount-x.result c.amount-x.ensures c.if-d-gt9007199254740992.true _

pub loop-a-preserved : goal.loop-a-preserved
loop-a-preserved c =
    let l = c.loop-a in
    let s = c.args in
    let n = net_of s.net.now in
    let p = get_or n.place l.a 0 in
    let count = get_or l.counts p 0 in
    let small = l.invariant.0.good.small p in
    elim c.if-k-eq-PUT.branch [
      | then-k-eq-PUT+else-d-gt9007199254740992 w ↦ (
        firing_put _ _ _ _ _ _ _ _ _ _ _ l.invariant.0 c.loop-a-test.true c.requires.1 (c.requires.3 l.a) (c.requires.4 l.a)
            (eq-eqb _ 2 w.if-k-eq-PUT.true) w.amount-x.result w.amount-x.ensures w.if-d-gt9007199254740992.false _ _ _ w.counts-is w.less-is w.more-is,
        told_more moves_on n s.j _ _ _ _ _ l.invariant.1 l.invariant.0.good p (count + w.amount-x.result) count (count + w.amount-x.result) w.crossed-crossed.result
            (λ m. fire_puts n.arcs n.kind n.place n.weight s.j l.a l.auto.a c.loop-a-test.true (eq-eqb _ 2 w.if-k-eq-PUT.true))
            (c.requires.3 l.a) (omega arith) (omega arith) (omega arith) (omega arith) w.if-d-gt9007199254740992.false w.crossed-crossed.ensures _ _ _ w.counts-is w.moved-is w.crossed-is,
      )
      | else-k-eq-PUT+then-y-gt0 w ↦ (
        firing_take _ _ _ _ _ _ _ _ _ _ _ l.invariant.0 c.loop-a-test.true c.requires.1 (c.requires.3 l.a) (c.requires.4 l.a)
            (ne_eqb _ 2 w.if-k-eq-PUT.false) w.taken_from-y.result w.taken_from-y.ensures _ _ _ w.counts-is w.less-is w.more-is,
        told_more moves_on n s.j _ _ _ _ _ l.invariant.1 l.invariant.0.good p (count - w.taken_from-y.result) (count - w.taken_from-y.result) count w.crossed-crossed-then-y-gt0.result
            (λ m. fire_takes n.arcs n.kind n.place n.weight s.j l.a l.auto.a c.loop-a-test.true count w.taken_from-y.result w.if-y-gt0.true w.taken_from-y.ensures)
            (c.requires.3 l.a) (omega arith) (omega arith) (omega arith) (omega arith) small w.crossed-crossed-then-y-gt0.ensures _ _ _ w.counts-is w.moved-is w.crossed-is,
      )
      | else-k-eq-PUT+else-y-gt0 w ↦
          let none : count - w.taken_from-y.result ≡ count = omega (arith, w.if-y-gt0.false) in (
            firing_take _ _ _ _ _ _ _ _ _ _ _ l.invariant.0 c.loop-a-test.true c.requires.1 (c.requires.3 l.a) (c.requires.4 l.a)
                (ne_eqb _ 2 w.if-k-eq-PUT.false) w.taken_from-y.result w.taken_from-y.ensures _ _ _ (w.counts-is ∙ sym (set_same l.counts p (count - w.taken_from-y.result) none))
                (omega (arith, w.if-y-gt0.false, w.less-is)) w.more-is,
            told_same moves_on n s.j _ _ _ _ _ l.invariant.1 _ _ _ w.counts-is w.moved-is w.crossed-is,
          )
    ]

pub returns-clause-moves : goal.returns-clause-moves
returns-clause-moves c = firing_all _ _ _ _ _ _ _ _ _ _ _ c.loop-a.invariant.0 c.loop-a-test.false
