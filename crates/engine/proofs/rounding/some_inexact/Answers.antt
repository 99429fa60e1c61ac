-- The slots that are left have an inexact binomial just where all have one, since none before has. Assumes nothing.
use mathlib.Core.Path.{sym, ◌∙◌}
use Rattle.net.specs.Record.{net_of}
use Rattle.net.proofs.Slots.{or_stop, or_go}
use Rattle.engine.proofs.Inexact.{kinetic_turn, kinetic_end, off, off_all}
use Rattle.engine.proofs.rounding.some_inexact.Goals as goal

pub returns-then-inexact_slot : goal.returns-then-inexact_slot
returns-then-inexact_slot c =
    let s = c.args in
    let n = net_of s.net.now in
    or_stop _ _ (kinetic_turn (off s.counts.now) n.kind n.place n.weight c.loop-a.a _ c.loop-a.invariant c.loop-a-test.true) (sym c.inexact_slot.ensures ∙ c.if-inexact_slot.true)
    ∙ off_all n s.counts.now c.requires.1.place s.j

pub loop-a-preserved : goal.loop-a-preserved
loop-a-preserved c =
    let s = c.args in
    let n = net_of s.net.now in
    or_go _ _ (kinetic_turn (off s.counts.now) n.kind n.place n.weight c.loop-a.a _ c.loop-a.invariant c.loop-a-test.true) (sym c.inexact_slot.ensures ∙ c.if-inexact_slot.false)

pub returns : goal.returns
returns c =
    let s = c.args in
    let n = net_of s.net.now in
    kinetic_end (off s.counts.now) n.kind n.place n.weight c.loop-a.a _ c.loop-a.invariant c.loop-a-test.false ∙ off_all n s.counts.now c.requires.1.place s.j
