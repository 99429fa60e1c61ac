-- `c_face::generator::cild_next_u64` meets its contract: it is what `next_u64` ensures of the words lent. Assumes nothing.
use Rattle.c_face.proofs.generator.cild_next_u64.Goals as goal

pub returns : goal.returns
returns c = (cc, cc)
