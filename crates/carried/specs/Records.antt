-- The recorded cells of a carried path: "last, 4 meets a recorded cell that is no whole number in 0..2^53". Document 02, order 8.
use Rattle.std.specs.Prelude.{ℕ, zero, suc, ◌+◌, ◌*◌, Bool, false, not, ◌||◌, List, [], ◌∷◌, take, drop, slice_index_or, Float}
use Rattle.std.specs.Float.{nan}
use Rattle.std.specs.Float.Ieee.{to_unsigned}
use Rattle.net.specs.Net.{Marking}
use Rattle.net.specs.Tests.{any}
use Rattle.rules.specs.Change.{cell_fits}

-- one of these cells is no whole number in 0..2^53
abbrev pub some_strange : List Float → Bool
some_strange xs = any (λ (x : Float). not (cell_fits x)) xs

-- the recorded cells of place p: the first so many of its n
abbrev pub record_of : ℕ → ℕ → List Float → ℕ → List Float
record_of n recorded table p = take recorded (drop (p * n) table)

-- one of the recorded cells of k places from place p on is strange
abbrev pub strange_from : ℕ → ℕ → List Float → ℕ → ℕ → Bool
strange_from n recorded table p zero = false
strange_from n recorded table p (suc k) = some_strange (record_of n recorded table p) || strange_from n recorded table (suc p) k

abbrev pub record_strange : ℕ → ℕ → ℕ → List Float → Bool
record_strange places n recorded table = strange_from n recorded table 0 places

-- ---- the counts that recorded cells hold

-- a whole number, by its cell (−0 reads as 0)
abbrev pub count_in : Float → ℕ
count_in x = to_unsigned 64 x

-- at instant i, of k places from place p on
abbrev pub counts_from : ℕ → List Float → ℕ → ℕ → ℕ → Marking
counts_from n table i p zero = []
counts_from n table i p (suc k) = count_in (slice_index_or table (p * n + i) nan) ∷ counts_from n table i (suc p) k

-- at k instants from instant i on
abbrev pub recorded_from : ℕ → ℕ → List Float → ℕ → ℕ → List Marking
recorded_from places n table i zero = []
recorded_from places n table i (suc k) = counts_from n table i 0 places ∷ recorded_from places n table (suc i) k

-- "the instants with what is recorded of them": the counts at the first so many instants
abbrev pub recorded_in : ℕ → ℕ → List Float → ℕ → List Marking
recorded_in places n table recorded = recorded_from places n table 0 recorded
