-- The invariant: the test of the slots that are left is that of all. Assumes nothing.
use mathlib.Core.Path.{◌≡◌}
use mathlib.Core.Bool.{◌||◌}
use lib.Dec.{ltb}
use Rattle.net.specs.Tests.{any}
use Rattle.net.specs.Readable.{Slot, lent_from, lent_slots}
use Rattle.net.proofs.lent.Arcs.outside_arc.Given as goal

abbrev pub invariant-loop-slot : goal.invariant-loop-slot
invariant-loop-slot t =
    any (λ (l : Slot). ltb 4 l.kind || ltb 1_000_000 l.weight) (lent_from t.self t.slot)
    ≡ any (λ (l : Slot). ltb 4 l.kind || ltb 1_000_000 l.weight) (lent_slots t.self)
