-- The loop is a filling whose state is the sampler.
use Rattle.normals.specs.Normal.{sampler_of}
use Rattle.c_face.proofs.Filling.{Filling}
use Rattle.c_face.proofs.sampler.fill.Given as goal

abbrev pub invariant-loop-i : goal.invariant-loop-i
invariant-loop-i l = Filling (sampler_of l.initial.s) l.initial.out (sampler_of l.s) l.out l.i
