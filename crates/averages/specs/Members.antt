-- The paths of a call in their order, up to the first that is refused. Document 01, "Each operation's turn-downs: Ensemble, diffusion". A is what a path
-- is: in an ensemble the path itself, in a diffusion the cells of its table.
use Rattle.std.specs.Prelude.{ℕ, zero, suc, List, [], ◌∷◌}
use Rattle.rules.specs.Step.{Answer, refused, given}

-- the paths in order, or the first refusal and the number of its path
pub data Members (A : Type 0) : Type 0 where
  refused_at : ℕ → ℕ → Members A
  members : List A → Members A

abbrev pub with : {A : Type 0} → A → Members A → Members A
with a (refused_at c k) = refused_at c k
with a (members rest) = members (a ∷ rest)

abbrev pub unless_refused : {A : Type 0} → ℕ → Answer A → Members A → Members A
unless_refused k (refused c) later = refused_at c k
unless_refused k (given a) later = with a later

-- so many from number k on, each by w
abbrev pub paths_from : {A : Type 0} → (ℕ → Answer A) → ℕ → ℕ → Members A
paths_from w k zero = members []
paths_from w k (suc r) =
    let later = paths_from w (suc k) r in
    unless_refused k (w k) later

-- "An accepted call leaves the last path in the path table": what the last of some paths shows, or its cells
abbrev pub last_of : {A : Type 0} → List (List A) → List A
last_of [] = []
last_of (a ∷ []) = a
last_of (a ∷ (b ∷ rest)) = last_of (b ∷ rest)
