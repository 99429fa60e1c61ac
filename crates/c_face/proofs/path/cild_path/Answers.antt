-- `c_face::path::cild_path` meets its contract: what `path` ensures of the fields and words lent, read off field by field. Assumes nothing.
use Prim.Native.Nat.{ℕ}
use mathlib.Core.Path.{◌≡◌, ap, ◌∙◌}
use mathlib.Core.List.{List, [], ◌∷◌}
use lib.Ieee.{Float}
use Rattle.rng.specs.State.{words}
use Rattle.ssa.specs.declared.PathAnswer.{PathAnswer}
use Rattle.ssa.specs.Path.{Call, call_of, end_of}
use Rattle.c_face.specs.Played.{end_number, told_of, Left}
use Rattle.c_face.proofs.path.cild_path.Goals as goal

-- what an answer says is what its call leaves
left : (r : PathAnswer) (table : List Float) (n : ℕ) (s : List ℕ) (l : Call) → call_of r table ≡ l → n ≡ end_number (end_of r.end) → s ≡ r.generator.s
    → Left l (n ∷ r.steps ∷ r.settled ∷ r.peak ∷ r.rounded ∷ []) (words s) table
left r table n s l e h k =
    (ap (λ (m : ℕ). m ∷ r.steps ∷ r.settled ∷ r.peak ∷ r.rounded ∷ []) h ∙ ap told_of e, ap words k ∙ ap (λ (x : Call). x.generator) e, ap (λ (x : Call). x.table) e)

pub returns : goal.returns
returns c =
    let e = rw c.from_state.ensures at c.path-r.ensures in
    left c.path-r.result _ _ _ _ e c.end_number.ensures c.state.ensures
