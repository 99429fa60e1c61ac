-- What a call for a net's objections to diffusion leaves with a caller that reads numbers. Definitions only.
use Rattle.std.specs.Prelude.{ℕ, ◌≡◌, List, [], ◌∷◌, Result, Ok, Err}
use Rattle.text.specs.Text.{Bytes}

-- the refusal's number or 0, and the text's length
abbrev pub told_of : Result ℕ ℕ → List ℕ
told_of (Ok n) = 0 ∷ n ∷ []
told_of (Err c) = c ∷ 0 ∷ []

-- the two numbers and the buffer are those of the call
abbrev pub Left : Bytes × Result ℕ ℕ → List ℕ → Bytes → Type 0
Left c told out = (told ≡ told_of c.1) × (out ≡ c.0)
