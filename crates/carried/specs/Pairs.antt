-- A renaming list in words, and the new numbers as a table. Document 02, order 8: "A renaming list gives pairs of old and new transition numbers".
use Rattle.std.specs.Prelude.{◌≡◌, ℕ, ◌<◌, Bool, ◌&&◌, List, [], ◌∷◌, length, nat_lt, slice_index_or}
use Rattle.std.proofs.Math.Option.{Option, none, some}
use Rattle.words.specs.Bits.{bit}
use Rattle.rules.specs.Change.{Pair, new_number}

-- old number, new number, and so on; a last word without a partner is no pair
abbrev pub pairs_of : List ℕ → List Pair
pairs_of [] = []
pairs_of (a ∷ []) = []
pairs_of (a ∷ b ∷ rest) = record { old = a; new = b } ∷ pairs_of rest

-- a new number, or 64 where there is none
abbrev pub number_in : Option ℕ → ℕ
number_in none = 64
number_in (some k) = k

-- the table has the new number of every transition below 64
pub record Names (ps : List Pair) (names : List ℕ) : Type 0 where
  pub long : length names ≡ 64
  pub each : (j : ℕ) → j < 64 → slice_index_or names j 64 ≡ number_in (new_number ps j)

-- a transition that goes, by the table, to one of the word
abbrev pub goes_to : List ℕ → ℕ → ℕ → Bool
goes_to names delayed j = nat_lt j 64 && nat_lt (slice_index_or names j 64) 64 && bit delayed (slice_index_or names j 64)
