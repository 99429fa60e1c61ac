-- What an ensemble call leaves with a caller that reads numbers. Definitions only.
use Rattle.std.specs.Prelude.{ℕ, ◌≡◌, List, [], ◌∷◌, Float}
use Rattle.net.specs.Net.{pick}
use Rattle.ssa.specs.Ensemble.{Outcome, averaged, turned_down, stopped, Call}

-- the refusal's number, or 0; the number of the path that was refused, or how many were spent; 1 where there are deviations
abbrev pub told_of : Outcome → List ℕ
told_of (averaged k deviates) = 0 ∷ k ∷ pick deviates 1 0 ∷ []
told_of (turned_down c) = c ∷ 0 ∷ 0 ∷ []
told_of (stopped c k) = c ∷ k ∷ 0 ∷ []

-- the three numbers and the tables are those of the call
abbrev pub Left : Call → List ℕ → List Float → List Float → List Float → Type 0
Left c told mean deviation path = (told ≡ told_of c.outcome) × (mean ≡ c.tables.mean) × (deviation ≡ c.tables.deviation) × (path ≡ c.tables.path)
