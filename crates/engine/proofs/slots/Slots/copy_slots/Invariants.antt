-- What is copied, then what is left of the group, is the whole group (proofs/Copying). Assumes nothing.
use Prim.Native.Nat.{◌-◌, ◌+◌}
use mathlib.Core.Path.{◌≡◌}
use Rattle.net.specs.Readable.{slots}
use Rattle.engine.specs.Arcs.{of_group}
use Rattle.engine.proofs.Copying.{Copying}
use Rattle.engine.proofs.slots.Slots.copy_slots.Given as goal

abbrev pub invariant-loop-a : goal.invariant-loop-a
invariant-loop-a l =
    Copying l.to l.b (of_group l.g (slots l.net.kind.now l.net.place.now l.net.weight.now l.a (l.from + l.n - l.a))) (of_group l.g (slots l.net.kind.now l.net.place.now l.net.weight.now l.from l.n))
    l.initial.self.kind l.initial.self.place l.initial.self.weight l.self.kind l.self.place l.self.weight
    × (l.self.arcs ≡ l.initial.self.arcs)
