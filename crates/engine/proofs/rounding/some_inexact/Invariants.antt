-- The slots that are left have an inexact binomial just where all have one, since none before has. Assumes nothing.
use Prim.Native.Nat.{◌-◌}
use mathlib.Core.Path.{◌≡◌}
use Rattle.net.specs.Tests.{any}
use Rattle.net.specs.Readable.{slots, takes_of}
use Rattle.engine.proofs.Inexact.{kinetic, off}
use Rattle.engine.proofs.rounding.some_inexact.Given as goal

abbrev pub invariant-loop-a : goal.invariant-loop-a
invariant-loop-a l =
    any (kinetic (off l.counts)) (takes_of (slots l.net.kind.now l.net.place.now l.net.weight.now l.a (l.end - l.a)))
    ≡ any (kinetic (off l.counts)) (takes_of (slots l.net.kind.now l.net.place.now l.net.weight.now l.from (l.end - l.from)))
