-- The invariant: the test of the slots that are left is that of all. Assumes nothing.
use mathlib.Core.Path.{◌≡◌}
use lib.Dec.{leb}
use Rattle.net.specs.Tests.{any}
use Rattle.net.specs.Readable.{Slot, lent_from, lent_slots}
use Rattle.net.proofs.lent.Arcs.no_such_place.Given as goal

abbrev pub invariant-loop-slot : goal.invariant-loop-slot
invariant-loop-slot t =
    any (λ (l : Slot). leb t.self.net.now.places l.place) (lent_from t.self t.slot)
    ≡ any (λ (l : Slot). leb t.self.net.now.places l.place) (lent_slots t.self)
