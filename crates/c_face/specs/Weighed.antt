-- What a call that asks for a balance leaves with a caller that reads numbers. Definitions only.
use Rattle.std.specs.Prelude.{ℕ, List, [], ◌∷◌}
use Rattle.std.proofs.Math.Option.{none, some}
use Rattle.rules.specs.Step.{refused, given}
use Rattle.balance.specs.Call.{Called}

-- the refusal's number, 100 for balanced, or 101 with the lowest unbalanced transition
abbrev pub told_of : Called → List ℕ
told_of (refused c) = c ∷ 0 ∷ []
told_of (given none) = 100 ∷ 0 ∷ []
told_of (given (some j)) = 101 ∷ j ∷ []
