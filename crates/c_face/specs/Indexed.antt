-- What a call for a net's index leaves with a caller that reads numbers. Definitions only.
use Rattle.std.specs.Prelude.{ℕ, ◌≡◌, List, Result, Ok, Err}
use Rattle.std.proofs.Math.Option.{Option, none, some}
use Rattle.net.specs.Net.{Net}
use Rattle.refusals.specs.declared.Refusal.{Refusal}
use Rattle.refusals.specs.Number as Number
use Rattle.index.specs.Table.{Lists}

-- a verdict as a number: the refusal's own, or 0
abbrev pub number_of : Result Unit Refusal → ℕ
number_of (Ok v) = 0
number_of (Err c) = Number.number_of c

-- By the net's fault, and the masks before and after the call: 0 and the net's index where it has none, else its number and the masks as they were.
abbrev pub Left : Option ℕ → Net → List ℕ → List ℕ → ℕ → Type 0
Left none n before after told = (told ≡ 0) × Lists n after
Left (some c) n before after told = (told ≡ c) × (after ≡ before)
