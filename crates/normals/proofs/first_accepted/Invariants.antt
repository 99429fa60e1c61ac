-- The pairs that are left, from the generator so far, come to the whole. Assumes nothing.
use mathlib.Core.Path.{◌≡◌}
use Prim.Native.Nat.{◌-◌}
use Rattle.rng.specs.State.{words}
use Rattle.normals.specs.Normal.{first_accepted}
use Rattle.normals.proofs.first_accepted.Given as goal

abbrev pub invariant-loop : goal.invariant-loop
invariant-loop l = first_accepted (128 - l.counter) (words l.g.s) ≡ first_accepted 128 (words l.initial.g.s)
