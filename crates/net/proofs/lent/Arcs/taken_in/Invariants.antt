-- The invariant: the test of the slots that are left is that of all. Assumes nothing.
use mathlib.Core.Path.{◌≡◌}
use mathlib.Core.Bool.{◌&&◌}
use lib.Dec.{eqb, leb}
use Rattle.net.specs.Tests.{any}
use Rattle.net.specs.Readable.{Slot, lent_from}
use Rattle.net.proofs.lent.Arcs.taken_in.Given as goal

abbrev pub invariant-loop-slot : goal.invariant-loop-slot
invariant-loop-slot t =
    any (λ (l : Slot). leb l.kind 1 && eqb t.p l.place) (lent_from t.self t.slot)
    ≡ any (λ (l : Slot). leb l.kind 1 && eqb t.p l.place) (lent_from t.self t.from)
