-- `placed` is `root_in`: q, with half the exponent over it, is the pattern of `root_in` (`Scaled`). Assumes nothing.
use Rattle.root.proofs.Scaled.{made, made_is_number}
use Rattle.root.proofs.placed.Goals as goal

pub float_from_bits-result : goal.float_from_bits-result
float_from_bits-result c = let p = c.requires in made_is_number c.args.m c.args.v p.0 p.1 p.3 c.args.q p.4

pub returns : goal.returns
returns c = let p = c.requires in made c.args.m c.args.v p.0 p.1 p.3 c.args.q p.4
