-- What is left, on top of d, comes to the whole. Assumes nothing.
use Rattle.net.specs.Net.{zero64}
use Rattle.net.specs.Readable.{slots, takes_of}
use Rattle.sde.specs.Diffusion.{less_takes}
use mathlib.Core.Path.{◌≡◌}
use Prim.Native.Nat.{◌-◌, ◌≤◌}
use Rattle.sde.proofs.change.less_takes.Given as goal

abbrev pub invariant-loop-a : goal.invariant-loop-a
invariant-loop-a l =
    (l.from ≤ l.a) × (less_takes l.p l.d (takes_of (slots l.net.kind.now l.net.place.now l.net.weight.now l.a (l.end - l.a))) ≡ less_takes l.p zero64 (takes_of (slots l.net.kind.now l.net.place.now l.net.weight.now l.from (l.end - l.from))))
