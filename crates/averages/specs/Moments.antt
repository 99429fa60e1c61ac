-- Means and deviations over paths. A path is the list of its table's cells, so cell c is the same place and instant in each. Document 01, "Ensemble":
-- "Mean = sum / n; deviation = root of (sum of squares / n − mean × mean), negative read as 0". Sums run in path order, from +0.
use Rattle.std.specs.Prelude.{ℕ, zero, suc, List, [], ◌∷◌, ◌++◌, length, drop, ◌==◌, slice_index_or, Float}
use Rattle.std.specs.Float.{nan, binary64}
use Rattle.std.specs.Float.Ieee.{add, sub, mul, div, lt}
use Rattle.net.specs.Net.{pick, zero64}
use Rattle.root.specs.Root.{root_of}
use Rattle.rules.specs.Propensity.{float}

-- one value more
abbrev pub plus : Float → Float → Float
plus sum v = add binary64 sum v

abbrev pub plus_square : Float → Float → Float
plus_square sum v = add binary64 sum (mul binary64 v v)

-- cell c of each path, put on top of what is there
abbrev pub summed_up : (Float → Float → Float) → ℕ → Float → List (List Float) → Float
summed_up f c sum [] = sum
summed_up f c sum (cells ∷ paths) = summed_up f c (f sum (slice_index_or cells c nan)) paths

-- "Mean = sum / n"
abbrev pub mean_of : Float → Float → Float
mean_of n sum = div binary64 sum n

abbrev pub mean_at : List (List Float) → ℕ → Float
mean_at paths c = mean_of (float (length paths)) (summed_up plus c zero64 paths)

-- "root of (sum of squares / n − mean × mean), negative read as 0"
abbrev pub deviation_of : Float → Float → Float → Float
deviation_of n squares mean =
    let v = sub binary64 (div binary64 squares n) (mul binary64 mean mean) in
    root_of (pick (lt v zero64) zero64 v)

-- "with one realization the deviation is marked absent and its cells are +0"
abbrev pub deviation_at : List (List Float) → ℕ → Float
deviation_at paths c =
    let worked = deviation_of (float (length paths)) (summed_up plus_square c zero64 paths) (mean_at paths c) in
    pick (length paths == 1) zero64 worked

-- ---- the tables

-- k cells from number c on
abbrev pub cells_from : (ℕ → Float) → ℕ → ℕ → List Float
cells_from f c zero = []
cells_from f c (suc k) = f c ∷ cells_from f (suc c) k

-- the answer's cells; "Further cells stay"
abbrev pub table_by : (ℕ → Float) → ℕ → List Float → List Float
table_by f cells table = cells_from f 0 cells ++ drop cells table
