-- `c_face::ensemble::ensemble_numbers` meets its contract: the case that the answer is says its numbers. Assumes nothing.
use mathlib.Core.Path.{sym, ap, ◌∙◌}
use mathlib.Core.List.{[], ◌∷◌}
use Prim.Native.Nat.{ℕ}
use Rattle.ssa.specs.declared.EnsembleAnswer.{EnsembleAnswer}
use Rattle.ssa.specs.Ensemble.{outcome_of}
use Rattle.c_face.specs.Averaged.{told_of}
use Rattle.c_face.proofs.Flags.{flag}
use Rattle.c_face.proofs.ensemble.ensemble_numbers.Goals as goal

pub returns-in-Averaged : goal.returns-in-Averaged
returns-in-Averaged c =
    ap (λ (d : ℕ). 0 ∷ c.in-Averaged.spent ∷ d ∷ []) (c.from.ensures ∙ flag c.in-Averaged.deviates)
    ∙ ap (λ (z : EnsembleAnswer). told_of (outcome_of z)) (sym c.in-Averaged.is)
