-- Lent tables, and what a call leaves in its three. Document 01: "Vec<Vec<f64>> becomes a lent table: place p, instant i at cell p × n + i, n instants.
-- Further cells stay"; and "Each operation's turn-downs: Ensemble, diffusion".
use Rattle.std.specs.Prelude.{ℕ, zero, suc, ◌*◌, List, [], ◌++◌, map, length, drop, replicate, Float}
use Rattle.std.proofs.Math.Option.{Option}
use Rattle.net.specs.declared.Net.{Net as NetRecord}
use Rattle.net.specs.Net.{zero64}
use Rattle.net.specs.Tests.{or_else}
use Rattle.net.specs.Readable.{fault}
use Rattle.averages.specs.Request.{Request, request_fault, tables_fault}
use Rattle.averages.specs.Moments.{mean_at, deviation_at, table_by}

-- ---- the cells of a table

-- the row of place p: its value at each instant, of what is shown there
abbrev pub row : {A : Type 0} → (A → ℕ → Float) → List A → ℕ → List Float
row {A} value shown p = map (λ (a : A). value a p) shown

-- k rows from place p on
abbrev pub rows_from : {A : Type 0} → (A → ℕ → Float) → List A → ℕ → ℕ → List Float
rows_from value shown p zero = []
rows_from value shown p (suc k) = row value shown p ++ rows_from value shown (suc p) k

-- "the answer's cells are then +0"; "Further cells stay"
abbrev pub cleared : ℕ → List Float → List Float
cleared cells table = replicate cells zero64 ++ drop cells table

-- ---- the three tables of a call

pub record Tables : Type 0 where
  pub mean : List Float
  pub deviation : List Float
  pub path : List Float

-- "the answer's cells in all three tables are +0"
abbrev pub all_cleared : ℕ → Tables → Tables
all_cleared cells t = record { mean = cleared cells t.mean; deviation = cleared cells t.deviation; path = cleared cells t.path }

-- the means and deviations over the cells of each path, and a path table
abbrev pub averaged_over : ℕ → List (List Float) → List Float → Tables → Tables
averaged_over cells each path t =
    record { mean = table_by (mean_at each) cells t.mean; deviation = table_by (deviation_at each) cells t.deviation; path = path }

-- "8 samples, 9 realizations, 10 horizon, 11 any of the mean, deviation and path tables too short; nothing touched", after the net's own tests
abbrev pub call_fault : NetRecord → Request → Tables → Option ℕ
call_fault n q t =
    or_else (fault n)
    (or_else (request_fault q)
    (tables_fault (n.places * q.samples) (length t.mean) (length t.deviation) (length t.path)))
