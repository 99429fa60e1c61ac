-- What the loop over an ensemble's paths leaves, in the words of Ensemble. Nothing here adds to the rules.
use Rattle.std.specs.Prelude.{ℕ, ◌+◌, ◌*◌, ◌^◌, ◌≤◌, ◌<◌, ◌≡◌, true, List, map, length, get_or, drop, Float, Result, Ok, Err}
use Rattle.refusals.specs.Number.{number_of}
use Rattle.refusals.specs.declared.Refusal.{Refusal as RefusalEnum}
use Rattle.net.specs.declared.Net.{Net as NetRecord}
use Rattle.net.specs.Net.{Net, zero64}
use Rattle.rng.specs.Splitmix.{seeded}
use Rattle.rules.specs.Step.{Answer, refused, given}
use Rattle.rules.specs.Shown.{Path, instants_fit, worked}
use Rattle.averages.specs.Front.{with_front}
use Rattle.averages.specs.Moments.{plus, plus_square, summed_up, table_by}
use Rattle.averages.specs.Request.{seed_of}
use Rattle.averages.specs.Members.{Members, refused_at, members}
pub use Rattle.averages.specs.Members.{paths_from}
use Rattle.playing.specs.declared.PathEnd.{PathEnd}
use Rattle.playing.specs.declared.PathEnd.TheVariants.{Quiet, Spent, Reached, Halted, Refused}
use Rattle.engine.specs.Engine.{Tidy}
use Rattle.engine.specs.Limits.{Limits}
use Rattle.playing.specs.Keeping.{Tables}
use Rattle.playing.specs.Cells.{table_of, cleared}
use Rattle.ssa.specs.Ensemble.{one_if_spent, spent_of, cells_of, last_shown}

-- what every path is lent: a tidy net with small initial counts, its limits and tables, and instants that fit
pub record Lent (n : NetRecord) (limit : List ℕ) (rates : List Float) (ends guards : List ℕ) (delayed several : ℕ) (xs : List Float) : Type 0 where
  pub tidy : Tidy n
  pub limits : Limits n limit
  pub small : (p : ℕ) → p < n.places → get_or n.initial p 0 ≤ 2 ^ 53
  pub tables : Tables n rates ends guards delayed several
  pub fit : instants_fit xs ≡ true

-- path k, from the seed, the instants and the step limit that the program has at hand
unfoldable pub drawn : Net → ℕ → List Float → ℕ → ℕ → Answer Path
drawn n seed xs steps k = worked n (seeded (seed_of seed k)) xs steps

abbrev pub one_by_spent : PathEnd → ℕ
one_by_spent Quiet = 0
one_by_spent Spent = 1
one_by_spent Reached = 0
one_by_spent Halted = 0
one_by_spent (Refused c) = 0

-- the path w: refused, with its cells cleared and the sums as they were; or shown, and added to the sums, with s spent paths from then on
pub data TurnBy (w : Answer Path) (places n spent : ℕ) (mean mean' deviation deviation' path path' : List Float) : Result ℕ RefusalEnum → Type 0 where
  stops : (c : RefusalEnum) → w ≡ refused (number_of c) → mean' ≡ mean → deviation' ≡ deviation → path' ≡ cleared (places * n) path
      → TurnBy w places n spent mean mean' deviation deviation' path path' (Err c)
  goes : (a : Path) (s : ℕ) → w ≡ given a → s ≡ spent + one_if_spent a.end → mean' ≡ with_front plus (places * n) path' mean
      → deviation' ≡ with_front plus_square (places * n) path' deviation → path' ≡ table_of places a.shown path
      → TurnBy w places n spent mean mean' deviation deviation' path path' (Ok s)

-- the sum over the paths, cell by cell
abbrev pub sum_at : (Float → Float → Float) → ℕ → List Path → ℕ → Float
sum_at f places ps c = summed_up f c zero64 (map (cells_of places) ps)

-- the tables hold the sums over these paths, and the last of them
pub record Sums (places n : ℕ) (ps : List Path) (mean mean' deviation deviation' path path' : List Float) : Type 0 where
  pub sum : mean' ≡ table_by (sum_at plus places ps) (places * n) mean
  pub squares : deviation' ≡ table_by (sum_at plus_square places ps) (places * n) deviation
  pub last : path' ≡ table_of places (last_shown ps) path
  pub further : drop (places * n) path' ≡ drop (places * n) path

-- all r paths: one was refused, and only the answer's cells differ; or these were added
pub data SummedBy (whole : Members Path) (places n r : ℕ) (mean mean' deviation deviation' path path' : List Float) : Result ℕ (RefusalEnum × ℕ) → Type 0 where
  stops : (c : RefusalEnum) (k : ℕ) → whole ≡ refused_at (number_of c) k → drop (places * n) mean' ≡ drop (places * n) mean → drop (places * n) deviation' ≡ drop (places * n) deviation
      → path' ≡ cleared (places * n) path → SummedBy whole places n r mean mean' deviation deviation' path path' (Err (c, k))
  done : (ps : List Path) (s : ℕ) → whole ≡ members ps → length ps ≡ r → s ≡ spent_of ps → Sums places n ps mean mean' deviation deviation' path path'
      → SummedBy whole places n r mean mean' deviation deviation' path path' (Ok s)
