-- What a path call leaves with a caller that reads numbers. Definitions only.
use Rattle.std.specs.Prelude.{ℕ, ◌≡◌, List, [], ◌∷◌, Float}
use Rattle.rng.specs.State.{State as Generator}
use Rattle.rules.specs.Step.{Answer, refused, given}
use Rattle.rules.specs.Run.{End, quiet, spent, reached, halted}
use Rattle.ssa.specs.Path.{Call}

-- an end as a number: a refusal's own, or 100 for quiet, 101 for spent, 102 for reached, 103 for halted
abbrev pub end_number : Answer End → ℕ
end_number (refused c) = c
end_number (given quiet) = 100
end_number (given spent) = 101
end_number (given reached) = 102
end_number (given halted) = 103

-- the end, the steps, the settled instants, the peak and the rounded steps
abbrev pub told_of : Call → List ℕ
told_of c = end_number c.end ∷ c.steps ∷ c.settled ∷ c.peak ∷ c.rounded ∷ []

-- the five numbers, the generator and the table are those of the call
abbrev pub Left : Call → List ℕ → Generator → List Float → Type 0
Left c told g table = (told ≡ told_of c) × (g ≡ c.generator) × (table ≡ c.table)
