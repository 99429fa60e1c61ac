-- The slots that are left have a heavy take just where all have one, since none before has. Assumes nothing.
use Prim.Native.Nat.{◌-◌}
use mathlib.Core.Path.{◌≡◌}
use Rattle.net.specs.Tests.{any}
use Rattle.net.specs.Readable.{slots, takes_of}
use Rattle.net.specs.Record.{net_of}
use Rattle.engine.specs.Traits.{heavy}
use Rattle.index.proofs.marks.heavy_slots.Given as goal

abbrev pub invariant-loop-a : goal.invariant-loop-a
invariant-loop-a l =
    let n = net_of l.net in
    any heavy (takes_of (slots n.kind n.place n.weight l.a (l.end - l.a))) ≡ any heavy (takes_of (slots n.kind n.place n.weight l.from (l.end - l.from)))
