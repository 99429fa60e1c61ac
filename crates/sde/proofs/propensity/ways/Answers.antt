-- The cast keeps the number. Assumes nothing.
use Rattle.std.proofs.Common.{◌∙◌}
use Rattle.sde.proofs.Factors.{ways_answer}
use Rattle.sde.proofs.propensity.ways.Goals as goal

pub returns : goal.returns
returns c = c.unwrap_or.ensures ∙ ways_answer c.args.x c.args.w c.requires c.combinations_real.result c.combinations_real.ensures
