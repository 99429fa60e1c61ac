-- The answer says its float, and 0 over 0 is the NaN of a refusal; the casts keep the two numbers (Factors). Assumes nothing.
use mathlib.Core.Path.{◌∙◌}
use Rattle.engine.proofs.Factors.{ways_answer}
use Rattle.engine.proofs.marking.ways.Goals as goal

pub returns : goal.returns
returns c =
    let r = c.combinations_unflagged in
    c.unwrap_or.ensures ∙ ways_answer c.args.m c.args.w c.requires.0 c.requires.1 r.result r.ensures
