-- The running sums of the propensities, kept from step to step: document 01's "total a0 added left to right". The statements at the end are proved in
-- proofs/RunningSums.antt.
use Rattle.std.specs.Prelude.{ℕ, suc, ◌≤◌, ◌<◌, ◌≡◌, true, false, List, [], ◌∷◌, length, get_or, Float}
use Rattle.std.specs.Float.{nan, binary64}
use Rattle.std.specs.Float.Ieee.{add, lt}
use Rattle.net.specs.Net.{zero64}
use Rattle.rules.specs.Gillespie.{sum_to}

-- the sums of the first, the first two and so on, added left to right, on top of s
abbrev pub sums_from : Float → List Float → List Float
sums_from s [] = []
sums_from s (x ∷ xs) = add binary64 s x ∷ sums_from (add binary64 s x) xs

abbrev pub sums : List Float → List Float
sums xs = sums_from zero64 xs

-- the sum of the first j + 1
abbrev pub sum_at : List Float → ℕ → Float
sum_at xs j = get_or (sums xs) j nan

-- the first k of the kept sums are the sums of xs
abbrev pub SumsKept : ℕ → List Float → List Float → Type 0
SumsKept k xs kept = (i : ℕ) → i < k → get_or kept i nan ≡ sum_at xs i

-- "the last with positive propensity"
pub record LastPositive (xs : List Float) (j : ℕ) : Type 0 where
  pub inside : j < length xs
  pub positive : lt zero64 (get_or xs j nan) ≡ true
  pub behind : (i : ℕ) → j < i → i < length xs → lt zero64 (get_or xs i nan) ≡ false

-- ---- statements: the sums

-- each is the total of the first propensities
abbrev pub SumsAreTotals : Type 0
SumsAreTotals = (xs : List Float) (j : ℕ) → j < length xs → sum_at xs j ≡ sum_to xs (suc j)

-- each is the one before it with one propensity more
abbrev pub SumsGoOn : Type 0
SumsGoOn = (xs : List Float) (j : ℕ) → j < length xs → sum_at xs j ≡ add binary64 (sum_to xs j) (get_or xs j nan)

-- kept sums stay good up to the first propensity that changes
abbrev pub SumsStay : Type 0
SumsStay = (k : ℕ) (xs ys kept : List Float) → k ≤ length xs → k ≤ length ys → ((i : ℕ) → i < k → get_or xs i nan ≡ get_or ys i nan)
    → SumsKept k xs kept → SumsKept k ys kept
