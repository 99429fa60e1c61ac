-- What a diffusion call leaves with a caller that reads numbers. Definitions only.
use Rattle.std.specs.Prelude.{ℕ, ◌+◌, ◌^◌, ◌≡◌, List, [], ◌∷◌, Float}
use Rattle.net.specs.Net.{pick}
use Rattle.sde.specs.Call.{Outcome, averaged, gated_by, turned_down, stopped, Call}

-- the mask whose bits have the numbers of a list
abbrev pub mask_of : List ℕ → ℕ
mask_of [] = 0
mask_of (p ∷ ps) = 2 ^ p + mask_of ps

-- the refusal's number, 0 for averaged, 100 for gated; the number of the path that was refused, or 1 where there are deviations; what gates a gated
-- net: the three counts, the mask of the bounded places, 1 where a transition is delayed
abbrev pub told_of : Outcome → List ℕ
told_of (averaged deviates) = 0 ∷ pick deviates 1 0 ∷ 0 ∷ 0 ∷ 0 ∷ 0 ∷ 0 ∷ []
told_of (gated_by g) = 100 ∷ 0 ∷ g.reads ∷ g.inhibitors ∷ g.non_kinetic ∷ mask_of g.bounded ∷ pick g.delayed 1 0 ∷ []
told_of (turned_down c) = c ∷ 0 ∷ 0 ∷ 0 ∷ 0 ∷ 0 ∷ 0 ∷ []
told_of (stopped c k) = c ∷ k ∷ 0 ∷ 0 ∷ 0 ∷ 0 ∷ 0 ∷ []

-- the seven numbers and the tables are those of the call
abbrev pub Left : Call → List ℕ → List Float → List Float → List Float → Type 0
Left c told mean deviation path = (told ≡ told_of c.outcome) × (mean ≡ c.tables.mean) × (deviation ≡ c.tables.deviation) × (path ≡ c.tables.path)
