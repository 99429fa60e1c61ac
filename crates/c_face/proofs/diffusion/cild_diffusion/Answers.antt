-- `c_face::diffusion::cild_diffusion` meets its contract: what `diffuse` ensures of the fields lent, read off table by table. Assumes nothing.
use Prim.Native.Nat.{ℕ}
use mathlib.Core.Path.{◌≡◌, ap, ◌∙◌}
use mathlib.Core.List.{List}
use lib.Ieee.{Float}
use Rattle.sde.specs.declared.DiffusionAnswer.{DiffusionAnswer}
use Rattle.sde.specs.Call.{Call, call_of, outcome_of}
use Rattle.c_face.specs.Diffused.{told_of, Left}
use Rattle.c_face.proofs.diffusion.cild_diffusion.Goals as goal

-- what an answer says is what its call leaves
left : (r : DiffusionAnswer) (mean deviation path : List Float) (told : List ℕ) (l : Call) → call_of r mean deviation path ≡ l → told ≡ told_of (outcome_of r)
    → Left l told mean deviation path
left r mean deviation path told l e h =
    (h ∙ ap (λ (x : Call). told_of x.outcome) e, ap (λ (x : Call). x.tables.mean) e, ap (λ (x : Call). x.tables.deviation) e, ap (λ (x : Call). x.tables.path) e)

pub returns : goal.returns
returns c =
    let s = c in
    left s.diffuse-answer.result _ _ _ _ _ s.diffuse-answer.ensures c.diffusion_numbers.ensures
