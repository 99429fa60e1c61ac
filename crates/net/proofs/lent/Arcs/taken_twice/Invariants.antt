-- The invariant: with the places of the takes so far in the word, what is left to find is the whole. Assumes nothing.
use mathlib.Core.Path.{◌≡◌}
use Rattle.words.specs.Bits.{bit}
use Rattle.net.specs.Tests.{twice}
use Rattle.net.specs.Readable.{lent_from, lent_slots}
use Rattle.net.proofs.Slots.{taken}
use Rattle.net.proofs.Twice.{left}
use Rattle.net.proofs.lent.Arcs.taken_twice.Given as goal

abbrev pub invariant-loop-slot : goal.invariant-loop-slot
invariant-loop-slot l =
    left (bit l.seen) (lent_from l.self l.slot) ≡ twice (taken (lent_slots l.self))
