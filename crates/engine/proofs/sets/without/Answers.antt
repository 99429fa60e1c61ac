-- By the law of a difference. Assumes nothing.
use Rattle.engine.proofs.Without.{bit_without}
use Rattle.engine.proofs.sets.without.Goals as goal

pub returns : goal.returns
returns c = λ j. bit_without c.args.a c.args.b j
