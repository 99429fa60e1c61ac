-- What a sampler gives in a row. Definitions only.
use Rattle.std.specs.Prelude.{ℕ, suc, ◌≡◌, Bool, List, [], ◌∷◌, Float}
use Rattle.rng.specs.State.{words}
use Rattle.rules.specs.Step.{Answer, refused, given}
use Rattle.normals.specs.Normal.{Sampler, normal, sampler_of}
use Rattle.c_face.specs.declared.sampler.Filled.{Filled as FilledStruct}

-- how many draws were answered, the cells that they went to with those behind them, and the sampler after them
pub record Filled : Type 0 where
  pub count : ℕ
  pub cells : List Float
  pub sampler : Sampler

abbrev pub unless_refused : Answer Float → Sampler → List Float → Filled → Filled
unless_refused (refused c) after cells later = record { count = 0; cells = cells; sampler = after }
unless_refused (given z) after cells later = record { count = suc later.count; cells = z ∷ later.cells; sampler = later.sampler }

-- a normal draw for each cell, the first one first, until one is refused
unfoldable pub filled : Sampler → List Float → Filled
filled s [] = record { count = 0; cells = []; sampler = s }
filled s (x ∷ xs) = unless_refused (normal s).answer (normal s).sampler (x ∷ xs) (filled (normal s).sampler xs)

-- four words, a spare and its flag as a sampler
abbrev pub sampler_from : List ℕ → Float → Bool → Sampler
sampler_from state spare waiting = record { generator = words state; spare = spare; waiting = waiting }

-- the number, the cells and the sampler are those of the draws
abbrev pub Left : Filled → ℕ → List Float → Sampler → Type 0
Left f count cells s = (count ≡ f.count) × (cells ≡ f.cells) × (s ≡ f.sampler)

-- what the program's answer says, beside the cells
abbrev pub filled_of : FilledStruct → List Float → Filled
filled_of r cells = record { count = r.count; cells = cells; sampler = sampler_of r.sampler }
