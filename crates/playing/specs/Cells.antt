-- The lent table. Document 01: "Vec<Vec<f64>> becomes a lent table: place p, instant i at cell p × n + i, n instants. Further cells stay."
use Rattle.std.specs.Prelude.{ℕ, zero, suc, ◌+◌, ◌*◌, ◌≤◌, ◌<◌, ◌≡◌, ◌⊎◌, List, [], ◌∷◌, ◌++◌, length, get_or, take, drop, Float}
use Rattle.std.specs.Float.{nan}
use Rattle.std.specs.Float.Ieee.{le}
use Rattle.net.specs.Net.{Marking, pick, held}
use Rattle.rules.specs.Propensity.{float}
use Rattle.averages.specs.Tables as Tables
use Rattle.playing.specs.declared.PathEnd.{PathEnd}
use Rattle.playing.specs.declared.PathEnd.TheVariants.{Quiet, Spent, Reached, Halted, Refused}
pub use Rattle.averages.specs.Tables.{cleared}

-- the count of place p, as a float
abbrev pub count_at : Marking → ℕ → Float
count_at m p = float (held m p)

-- the row of place p: its count at each instant
abbrev pub row : List Marking → ℕ → List Float
row shown p = Tables.row count_at shown p

-- k rows from place p on
abbrev pub rows_from : List Marking → ℕ → ℕ → List Float
rows_from shown p k = Tables.rows_from count_at shown p k

-- the table that shows these counts at its instants; "Further cells stay"
abbrev pub table_of : ℕ → List Marking → List Float → List Float
table_of places shown table = rows_from shown 0 places ++ drop (places * length shown) table

-- Counts written from instant `from` on, cells before and behind them left as they are: of place p, into the cells of its row
abbrev pub row_with : ℕ → List Marking → ℕ → List Float → List Float
row_with from shown p cells = take from cells ++ row shown p ++ drop (from + length shown) cells

-- of k places from place p on, n cells each, into the table from there on
abbrev pub rows_with : ℕ → ℕ → List Marking → ℕ → ℕ → List Float → List Float
rows_with n from shown p zero table = table
rows_with n from shown p (suc k) table = row_with from shown p (take n table) ++ rows_with n from shown (suc p) k (drop n table)

-- of all places
abbrev pub table_with : ℕ → ℕ → ℕ → List Marking → List Float → List Float
table_with places n from shown table = rows_with n from shown 0 places table

-- "Further cells stay": those from places × n on
abbrev pub Stay : ℕ → ℕ → List Float → List Float → Type 0
Stay places n before after = (c : ℕ) → places * n ≤ c → get_or after c nan ≡ get_or before c nan

-- ---- as it is filled, column by column

-- how many of the instants, from the first, are at most t
abbrev pub reached_by : Float → List Float → ℕ
reached_by t [] = 0
reached_by t (x ∷ xs) = pick (le x t) (suc (reached_by t xs)) 0

-- the cells of the instants from `from` to before `to` show the counts, and all others are as they were
pub record Filled (places n from to : ℕ) (counts : List ℕ) (before after : List Float) : Type 0 where
  pub long : length after ≡ length before
  pub shows : (p i : ℕ) → p < places → from ≤ i → i < to → get_or after (p * n + i) nan ≡ float (get_or counts p 0)
  pub others : (p i : ℕ) → p < places → i < n → ((i < from) ⊎ (to ≤ i)) → get_or after (p * n + i) nan ≡ get_or before (p * n + i) nan
  pub further : (c : ℕ) → places * n ≤ c → get_or after c nan ≡ get_or before c nan

-- ---- as a run shows its counts

-- the instants that the clock has reached and that were not shown yet are shown with the counts m
pub record ShownBy (places : ℕ) (xs : List Float) (clock : Float) (m : Marking) (next next' : ℕ) (before after : List Float) : Type 0 where
  pub up_to : next' ≡ next + reached_by clock (drop next xs)
  pub cells : Filled places (length xs) next next' m before after

-- nothing was shown
pub record NotShown (i i' : ℕ) (before after : List Float) : Type 0 where
  pub next : i' ≡ i
  pub table : after ≡ before

-- ---- as a run ends with the counts m and the instants from `next` on left

abbrev pub FinishedBy : ℕ → ℕ → ℕ → Marking → List Float → List Float → PathEnd → Type 0
FinishedBy places n next m before after Quiet = Filled places n next n m before after
FinishedBy places n next m before after Spent = Filled places n next n m before after
FinishedBy places n next m before after Reached = Filled places n next n m before after
FinishedBy places n next m before after Halted = after ≡ before
FinishedBy places n next m before after (Refused c) = after ≡ cleared (places * n) before
