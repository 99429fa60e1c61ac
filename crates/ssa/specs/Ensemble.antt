-- The ensemble call: paths from consecutive seeds over a grid of instants, their means and deviations, and what it leaves in its three tables.
-- Document 01, "Ensemble", "Added" and "Each operation's turn-downs: Ensemble, diffusion".
use Rattle.std.specs.Prelude.{ℕ, ◌+◌, ◌*◌, Bool, not, List, [], ◌∷◌, map, eqb, length, Float}
use Rattle.refusals.specs.Number.{number_of}
use Rattle.std.proofs.Math.Option.{Option, none, some}
use Rattle.net.specs.declared.Net.{Net as NetRecord}
use Rattle.net.specs.Net.{Net, Marking}
use Rattle.net.specs.Readable.{readable}
use Rattle.rules.specs.Step.{Answer}
use Rattle.rules.specs.Run.{End, quiet, spent, reached, halted}
use Rattle.rules.specs.Shown.{Path, worked}
use Rattle.averages.specs.Request.{Request, generator_of, grid}
use Rattle.averages.specs.Members.{Members, refused_at, members, paths_from, last_of}
use Rattle.averages.specs.Tables.{Tables, all_cleared, averaged_over, call_fault}
use Rattle.ssa.specs.declared.EnsembleAnswer.{EnsembleAnswer}
use Rattle.ssa.specs.declared.EnsembleAnswer.TheVariants.{Averaged, TurnedDown, Stopped}
use Rattle.playing.specs.Cells.{rows_from, table_of}

-- ---- its paths

-- path k: "a step limit (… 1,000,000, and so is an ensemble's)"
abbrev pub member : Net → Request → ℕ → Answer Path
member n q k = worked n (generator_of q k) (grid q) 1_000_000

-- so many from number k on
abbrev pub members_from : Net → Request → ℕ → ℕ → Members Path
members_from n q k r = paths_from (member n q) k r

-- "how many paths were spent"
abbrev pub one_if_spent : End → ℕ
one_if_spent quiet = 0
one_if_spent spent = 1
one_if_spent reached = 0
one_if_spent halted = 0

abbrev pub spent_of : List Path → ℕ
spent_of [] = 0
spent_of (a ∷ rest) = one_if_spent a.end + spent_of rest

-- ---- what the call answers and leaves in its tables

-- the number of spent paths and whether there are deviations ("with one realization the deviation is marked absent"); or turned down by a number
-- with nothing touched; or refused by 14 or 15, with the path's number
pub data Outcome : Type 0 where
  averaged : ℕ → Bool → Outcome
  turned_down : ℕ → Outcome
  stopped : ℕ → ℕ → Outcome

pub record Call : Type 0 where
  pub outcome : Outcome
  pub tables : Tables

-- the cells of a path's table, place by place
abbrev pub cells_of : ℕ → Path → List Float
cells_of places a = rows_from a.shown 0 places

-- what the last path shows
abbrev pub last_shown : List Path → List Marking
last_shown ps = last_of (map (λ (a : Path). a.shown) ps)

-- places × samples cells of each table are the answer's: means, deviations and the last path, or "+0" where a path is refused
abbrev pub tabulated : ℕ → ℕ → Tables → Members Path → Call
tabulated places samples t (refused_at c k) = record { outcome = stopped c k; tables = all_cleared (places * samples) t }
tabulated places samples t (members ps) =
    record {
      outcome = averaged (spent_of ps) (not (eqb (length ps) 1));
      tables = averaged_over (places * samples) (map (cells_of places) ps) (table_of places (last_shown ps) t.path) t;
    }

-- a call that a test turns down touches nothing
abbrev pub unless_fault : Option ℕ → Tables → Call → Call
unless_fault none t call = call
unless_fault (some c) t call = record { outcome = turned_down c; tables = t }

unfoldable pub called : NetRecord → Request → Tables → Call
called n q t = unless_fault (call_fault n q t) t (tabulated n.places q.samples t (members_from (readable n) q 0 q.realizations))

-- what the program's answer and tables say
abbrev pub outcome_of : EnsembleAnswer → Outcome
outcome_of (Averaged k deviates) = averaged k deviates
outcome_of (TurnedDown c) = turned_down (number_of c)
outcome_of (Stopped c k) = stopped (number_of c) k

abbrev pub call_of : EnsembleAnswer → List Float → List Float → List Float → Call
call_of r mean deviation path = record { outcome = outcome_of r; tables = record { mean = mean; deviation = deviation; path = path } }
