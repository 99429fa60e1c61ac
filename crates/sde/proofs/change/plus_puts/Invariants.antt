-- What is left, on top of d, comes to the whole. Assumes nothing.
use Rattle.net.specs.Readable.{slots, arcs_of, is_put}
use Rattle.sde.specs.Diffusion.{plus_puts}
use mathlib.Core.Path.{◌≡◌}
use Prim.Native.Nat.{◌-◌, ◌≤◌}
use Rattle.sde.proofs.change.plus_puts.Given as goal

abbrev pub invariant-loop-a : goal.invariant-loop-a
invariant-loop-a l =
    (l.from ≤ l.a) × (plus_puts l.p l.d (arcs_of is_put (slots l.net.kind.now l.net.place.now l.net.weight.now l.a (l.end - l.a))) ≡ plus_puts l.p l.first (arcs_of is_put (slots l.net.kind.now l.net.place.now l.net.weight.now l.from (l.end - l.from))))
