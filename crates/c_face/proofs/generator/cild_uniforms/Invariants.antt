-- The loop is a sweep whose state is the generator.
use lib.Ieee.{Float}
use Rattle.rng.specs.State.{State, words}
use Rattle.rng.specs.Xoshiro.{uniform, step}
use Rattle.c_face.proofs.Sweep.{Sweep}
use Rattle.c_face.proofs.generator.cild_uniforms.Given as goal

abbrev pub invariant-loop-x : goal.invariant-loop-x
invariant-loop-x l = Sweep (λ (s : State) (x : Float). uniform s) step (words l.state) l.initial.out (words l.rng.s) l.out l.x-index
