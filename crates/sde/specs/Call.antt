-- The diffusion call: paths from consecutive seeds, their means and deviations, and what it leaves in its three tables. Document 01, "Ensemble", "001" and
-- "Each operation's turn-downs: Ensemble, diffusion".
use Rattle.std.specs.Prelude.{ℕ, ◌*◌, Bool, true, false, not, List, ◌++◌, eqb, length, drop, Float}
use Rattle.refusals.specs.Number.{number_of}
use Rattle.std.proofs.Math.Option.{Option, none, some}
use Rattle.net.specs.declared.Net.{Net as NetRecord}
use Rattle.net.specs.Net.{Net}
use Rattle.net.specs.Readable.{readable}
use Rattle.rules.specs.Step.{Answer}
use Rattle.averages.specs.Request.{Request}
use Rattle.averages.specs.Members.{Members, refused_at, members, paths_from, last_of}
use Rattle.averages.specs.Tables.{Tables, all_cleared, averaged_over, call_fault}
use Rattle.sde.specs.declared.DiffusionAnswer.{DiffusionAnswer}
use Rattle.sde.specs.declared.DiffusionAnswer.TheVariants.{Averaged, Gated, TurnedDown, Stopped}
use Rattle.gates.specs.Gated.{Gates, gates, gated, gates_of}
use Rattle.sde.specs.Diffusion.{worked, cells_of}

-- ---- its paths

-- the cells of path k
abbrev pub member : Net → Request → ℕ → Answer (List Float)
member n q k = cells_of (length n.places) (worked n q k)

-- so many from number k on
abbrev pub members_from : Net → Request → ℕ → ℕ → Members (List Float)
members_from n q k r = paths_from (member n q) k r

-- ---- what the call answers and leaves in its tables

-- whether there are deviations ("with one realization the deviation is marked absent"); or gated; or turned down by a number; these two touch nothing.
-- Or refused by 16, with the path's number.
pub data Outcome : Type 0 where
  averaged : Bool → Outcome
  gated_by : Gates → Outcome
  turned_down : ℕ → Outcome
  stopped : ℕ → ℕ → Outcome

pub record Call : Type 0 where
  pub outcome : Outcome
  pub tables : Tables

-- the first `cells` cells of each table are the answer's: means, deviations and the last path, or +0 where a path is refused
abbrev pub tabulated : ℕ → Tables → Members (List Float) → Call
tabulated cells t (refused_at c k) = record { outcome = stopped c k; tables = all_cleared cells t }
tabulated cells t (members ps) =
    record { outcome = averaged (not (eqb (length ps) 1)); tables = averaged_over cells ps (last_of ps ++ drop cells t.path) t }

-- a call that a test turns down touches nothing
abbrev pub unless_fault : Option ℕ → Tables → Call → Call
unless_fault none t call = call
unless_fault (some c) t call = record { outcome = turned_down c; tables = t }

-- "answers gated, after 8 to 11 have been tested …; tables stay"
abbrev pub unless_gated : Bool → Gates → Tables → Call → Call
unless_gated true g t call = record { outcome = gated_by g; tables = t }
unless_gated false g t call = call

unfoldable pub called : NetRecord → Request → Tables → Call
called n q t =
    let net = readable n in
    let run = tabulated (n.places * q.samples) t (members_from net q 0 q.realizations) in
    unless_fault (call_fault n q t) t (unless_gated (gated (gates net)) (gates net) t run)

-- what the program's answer and tables say
abbrev pub outcome_of : DiffusionAnswer → Outcome
outcome_of (Averaged deviates) = averaged deviates
outcome_of (Gated g) = gated_by (gates_of g)
outcome_of (TurnedDown c) = turned_down (number_of c)
outcome_of (Stopped c k) = stopped (number_of c) k

abbrev pub call_of : DiffusionAnswer → List Float → List Float → List Float → Call
call_of r mean deviation path = record { outcome = outcome_of r; tables = record { mean = mean; deviation = deviation; path = path } }
