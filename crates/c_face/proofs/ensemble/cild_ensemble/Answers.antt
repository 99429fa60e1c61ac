-- `c_face::ensemble::cild_ensemble` meets its contract: what `ensemble` ensures of the fields lent, read off table by table. Assumes nothing.
use Prim.Native.Nat.{ℕ}
use mathlib.Core.Path.{◌≡◌, ap, ◌∙◌}
use mathlib.Core.List.{List}
use lib.Ieee.{Float}
use Rattle.ssa.specs.declared.EnsembleAnswer.{EnsembleAnswer}
use Rattle.ssa.specs.Ensemble.{Call, call_of, outcome_of}
use Rattle.c_face.specs.Averaged.{told_of, Left}
use Rattle.c_face.proofs.ensemble.cild_ensemble.Goals as goal

-- what an answer says is what its call leaves
left : (r : EnsembleAnswer) (mean deviation path : List Float) (told : List ℕ) (l : Call) → call_of r mean deviation path ≡ l → told ≡ told_of (outcome_of r)
    → Left l told mean deviation path
left r mean deviation path told l e h =
    (h ∙ ap (λ (x : Call). told_of x.outcome) e, ap (λ (x : Call). x.tables.mean) e, ap (λ (x : Call). x.tables.deviation) e, ap (λ (x : Call). x.tables.path) e)

pub returns : goal.returns
returns c =
    let s = c in
    left s.ensemble-answer.result _ _ _ _ _ s.ensemble-answer.ensures c.ensemble_numbers.ensures
