-- What is copied, then what is left of the group, is the whole group (proofs/Copying). Assumes nothing.
use native.Mathlib.Omega.{arith}
use mathlib.Core.Path.{◌∙◌}
use Prim.Native.Nat.{◌+◌, ◌-◌}
use Rattle.net.specs.Readable.{slot_at, slots}
use Rattle.net.specs.Record.{net_of}
use Rattle.engine.proofs.Copying.{copying_turn, copying_fits, copying_one}
use Rattle.engine.proofs.slots.Slots.copy_slots.Goals as goal

pub copy_slot-b-requires : goal.copy_slot-b-requires
copy_slot-b-requires c =
    let l = c.loop-a in
    let s = c.args in
    let n = net_of s.net.now in
    let i = l.invariant.0 in
    let now = copying_turn s.g n.kind n.place n.weight l.a (s.from + s.n) c.loop-a-test.true i in
    let room = copying_fits s.g (slot_at n.kind n.place n.weight l.a) (slots n.kind n.place n.weight (l.a + 1) (s.from + s.n - (l.a + 1))) c.requires.1 now in
    (omega arith, room, i.long_kind ∙ c.requires.2, i.long_place ∙ c.requires.3, i.long_weight ∙ c.requires.4)

pub loop-a-preserved : goal.loop-a-preserved
loop-a-preserved c =
    let l = c.loop-a in
    let s = c.args in
    let n = net_of s.net.now in
    let i = l.invariant.0 in
    let now = copying_turn s.g n.kind n.place n.weight l.a (s.from + s.n) c.loop-a-test.true i in
    let this = slot_at n.kind n.place n.weight l.a in
    let rest = slots n.kind n.place n.weight (l.a + 1) (s.from + s.n - (l.a + 1)) in
    let e = c.copy_slot-b.ensures in (
      copying_one s.g this rest now (copying_fits s.g this rest c.requires.1 now)
          (i.long_kind ∙ c.requires.2) (i.long_place ∙ c.requires.3) (i.long_weight ∙ c.requires.4) e.0 e.2 e.3 e.4,
      e.1 ∙ l.invariant.1,
    )
