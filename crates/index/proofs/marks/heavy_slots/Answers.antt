-- The slots that are left have a heavy take just where all have one, since none before has. Assumes nothing.
use Prim.Native.Nat.{ℕ}
use mathlib.Core.Path.{sym, ◌∙◌}
use mathlib.Core.Bool.{Bool}
use lib.Dec.{ltb}
use Rattle.net.specs.Net.{amount}
use Rattle.net.specs.Record.{net_of}
use Rattle.net.proofs.Slots.{or_stop, or_go}
use Rattle.engine.proofs.Inexact.{kinetic_turn, kinetic_end}
use Rattle.index.proofs.marks.heavy_slots.Goals as goal

abbrev several : ℕ → ℕ → Bool
several p w = ltb 1 (amount w)

pub returns-then-heavy_slot : goal.returns-then-heavy_slot
returns-then-heavy_slot c =
    let n = net_of c.args.net.now in
    or_stop _ _ (kinetic_turn several n.kind n.place n.weight c.loop-a.a c.args.end c.loop-a.invariant c.loop-a-test.true) (sym c.heavy_slot.ensures ∙ c.if-heavy_slot.true)

pub loop-a-preserved : goal.loop-a-preserved
loop-a-preserved c =
    let n = net_of c.args.net.now in
    or_go _ _ (kinetic_turn several n.kind n.place n.weight c.loop-a.a c.args.end c.loop-a.invariant c.loop-a-test.true) (sym c.heavy_slot.ensures ∙ c.if-heavy_slot.false)

pub returns : goal.returns
returns c =
    let n = net_of c.args.net.now in
    kinetic_end several n.kind n.place n.weight c.loop-a.a c.args.end c.loop-a.invariant c.loop-a-test.false
