-- The invariant: the first fault of the places that are left is that of all. Assumes nothing.
use Prim.Native.Nat.{◌-◌}
use mathlib.Core.Path.{◌≡◌}
use Rattle.net.specs.Readable.{places_fault}
use Rattle.net.proofs.places.places_fault.Given as goal

abbrev pub invariant-loop-p : goal.invariant-loop-p
invariant-loop-p l =
    places_fault l.net.initial.now l.net.capacity.now l.net.label.now l.net.lengths.now l.p (l.net.places - l.p)
    ≡ places_fault l.net.initial.now l.net.capacity.now l.net.label.now l.net.lengths.now 0 l.net.places
