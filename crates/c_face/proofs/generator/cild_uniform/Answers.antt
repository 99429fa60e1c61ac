-- `c_face::generator::cild_uniform` meets its contract: it is what `uniform` ensures of the words lent. Assumes nothing.
use Rattle.c_face.proofs.generator.cild_uniform.Goals as goal

pub returns : goal.returns
returns c = (cc, cc)
