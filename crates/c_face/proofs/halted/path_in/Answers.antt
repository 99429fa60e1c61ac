-- Field by field, by what each of the calls ensures.
use mathlib.Core.Path.{◌∙◌}
use lib.ListN.{get_or}
use lib.Ieee.{nan}
use Rattle.rng.specs.State.{words}
use Rattle.rules.specs.Step.{state}
use Rattle.engine.specs.Engine.{marking}
use Rattle.c_face.proofs.halted.path_in.Goals as goal

pub returns : goal.returns
returns c =
    let f = c in
    let s = f.args in
    let ws = s.halted.now in
    let g = f.from_state.ensures ∙ f.generator_in.ensures in
    λ places j. record {
      now = state (get_or s.times.now 0 nan) (marking places (f.counts_in.ensures j)) (c.timers_in.ensures j) (words (g j));
      steps = get_or ws 36 0;
      limit = get_or ws 37 0;
      peak = get_or ws 38 0;
      rounded = get_or ws 39 0;
      recorded = get_or ws 40 0;
    }
