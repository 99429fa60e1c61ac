-- The invariant: the total so far and that of the slots that are left make the whole, and the first is at most 16. Assumes nothing.
use Prim.Native.Nat.{◌+◌, ◌≤◌}
use mathlib.Core.Path.{◌≡◌}
use Rattle.net.specs.Readable.{lent_from, lent_slots}
use Rattle.net.proofs.Slots.{kinetic}
use Rattle.net.proofs.lent.Arcs.kinetic_over.Given as goal

abbrev pub invariant-loop-slot : goal.invariant-loop-slot
invariant-loop-slot l =
    (l.total + kinetic (lent_from l.self l.slot) ≡ kinetic (lent_slots l.self)) × (l.total ≤ 16)
