-- What the paths of a call leave, before means and deviations are made of their sums. It serves the private functions; the rules are in Call.
use Rattle.std.specs.Prelude.{ℕ, ◌≡◌, List, ◌++◌, length, drop, Float, Result, Ok, Err}
use Rattle.refusals.specs.Number.{number_of}
use Rattle.net.specs.Net.{Net, zero64}
use Rattle.averages.specs.Request.{seed_of}
use Rattle.averages.specs.Moments.{plus, plus_square, summed_up, table_by}
use Rattle.averages.specs.Members.{Members, refused_at, members, paths_from, last_of}
use Rattle.averages.specs.Tables.{Tables}
use Rattle.rules.specs.Step.{Answer}
use Rattle.sde.specs.declared.paths.Halt.{Halt}
use Rattle.sde.specs.Diffusion.{walked, cells_of}
use Rattle.sde.specs.Arrays.{Beyond}

-- path k from a seed, in substeps of width dt, and r paths from number k on: "Path k, counted from 0, starts from base + k modulo 2^64"
abbrev pub path_of : Net → ℕ → Float → ℕ → ℕ → Answer (List Float)
path_of net n dt seed k = cells_of (length net.places) (walked net dt n (seed_of seed k))

abbrev pub walks : Net → ℕ → Float → ℕ → ℕ → ℕ → Members (List Float)
walks net n dt seed k r = paths_from (path_of net n dt seed) k r

-- all paths were walked, with their sums and the last of them in the tables; or those before the first that was refused
pub data SummedBy (cells realizations : ℕ) (paths : Members (List Float)) (before : Tables) (mean deviation path : List Float) (answer : Result Unit Halt) : Type 0 where
  all : (done : List (List Float)) → answer ≡ Ok tt → length done ≡ realizations → paths ≡ members done
      → mean ≡ table_by (λ (c : ℕ). summed_up plus c zero64 done) cells before.mean
      → deviation ≡ table_by (λ (c : ℕ). summed_up plus_square c zero64 done) cells before.deviation
      → path ≡ last_of done ++ drop cells before.path
      → SummedBy cells realizations paths before mean deviation path answer
  halted : (h : Halt) → answer ≡ Err h → paths ≡ refused_at (number_of h.refusal) h.path
      → Beyond cells before.mean mean → Beyond cells before.deviation deviation → Beyond cells before.path path
      → SummedBy cells realizations paths before mean deviation path answer
