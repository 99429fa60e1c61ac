-- From e on no slot before a is a kinetic take. Assumes nothing.
use Rattle.sde.specs.Slots.{KineticEnd}
use Rattle.sde.proofs.propensity.kinetic_end.Given as goal

abbrev pub invariant-loop-a : goal.invariant-loop-a
invariant-loop-a l = KineticEnd l.kind l.from l.a l.e
