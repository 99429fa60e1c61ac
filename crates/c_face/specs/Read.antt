-- What a reading leaves with a caller that reads numbers. Definitions only.
use Rattle.std.specs.Prelude.{ℕ, List, [], ◌∷◌}
use Rattle.net_text.specs.Reading.{Answer, refused, given}

-- the refusal's number and line, or 0 and 0 where a net is given
abbrev pub told_of : Answer → List ℕ
told_of (refused c line) = c ∷ line ∷ []
told_of (given n ls r) = 0 ∷ 0 ∷ []
