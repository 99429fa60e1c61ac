-- The slots that are left are open where the transition is enabled. Assumes nothing.
use native.Mathlib.Omega.{arith}
use mathlib.Core.Path.{sym, ◌∙◌}
use Rattle.net.specs.Record.{net_of}
use Rattle.engine.proofs.Limits.{open_all, from_last, from_open}
use Rattle.engine.proofs.marking.enabled.Goals as goal

pub loop-a-init : goal.loop-a-init
loop-a-init c = open_all (net_of c.args.net.now) c.args.counts.now c.args.j c.requires.1 c.requires.3.small

pub returns-then-not-slot_open : goal.returns-then-not-slot_open
returns-then-not-slot_open c =
    let s = c.args in
    from_last (net_of s.net.now) c.requires.1 s.counts.now c.requires.3.small s.j c.loop-a.a _ c.loop-a.auto.a c.loop-a-test.true
    (c.requires.2 c.loop-a.a (omega (arith, c.requires.1.arcs s.j))) c.loop-a.invariant (sym c.slot_open.ensures ∙ c.if-not-slot_open.true)

pub loop-a-preserved : goal.loop-a-preserved
loop-a-preserved c =
    let s = c.args in
    from_open (net_of s.net.now) c.requires.1 s.counts.now c.requires.3.small s.j c.loop-a.a _ c.loop-a.auto.a c.loop-a-test.true
    (c.requires.2 c.loop-a.a (omega (arith, c.requires.1.arcs s.j))) c.loop-a.invariant (sym c.slot_open.ensures ∙ c.if-not-slot_open.false)
