-- A waiting spare, an accepted pair, or no pair: the three cases of the definition. Assumes nothing.
use Rattle.normals.specs.Normal.{sampler_of, pair_in}
use Rattle.normals.proofs.Pairs.{spare_given, drawn_value, drawn_nothing}
use Rattle.normals.proofs.GaussianSampler.normal.Goals as goal

pub returns-then-self : goal.returns-then-self
returns-then-self c = spare_given (sampler_of c.args.self) c.if-self.true

pub returns : goal.returns
returns c = drawn_value (sampler_of c.args.self) c.if-self.false (pair_in c.in-Some.p) c.in-Some.ensures c.scale-m.result c.scale-m.ensures

pub returns-in_default : goal.returns-in_default
returns-in_default c = drawn_nothing (sampler_of c.args.self) c.if-self.false c.in_default.ensures
