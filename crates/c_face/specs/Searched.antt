-- What a game's call leaves with a caller that reads numbers. Definitions only.
use Rattle.std.specs.Prelude.{ℕ, List, [], ◌∷◌}
use Rattle.game.specs.Game.{Answer, already, fire_first, pass_first, never}
use Rattle.game.specs.Call.{Called, refused, found}

-- an answer as a number
abbrev pub answer_number : Answer → ℕ
answer_number never = 100
answer_number already = 101
answer_number pass_first = 102
answer_number (fire_first j) = 103

-- its transition, 0 where it has none
abbrev pub fired_first : Answer → ℕ
fired_first never = 0
fired_first already = 0
fired_first pass_first = 0
fired_first (fire_first j) = j

-- the refusal's number, or the answer's with its transition; and the positions examined, 0 where the call is refused
abbrev pub told_of : Called → List ℕ
told_of (refused c) = c ∷ 0 ∷ 0 ∷ []
told_of (found x) = answer_number x.answer ∷ fired_first x.answer ∷ x.examined ∷ []
