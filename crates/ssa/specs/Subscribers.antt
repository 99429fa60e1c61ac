-- Subscribers neither made nor lost, of path calls. Document 02, order 7: "If yes, show that at every moment of any accepted path the weighted place counts
-- plus the weighted inputs of the running timers equal the weighted initial counts."
-- As in demand 3, `path` (src/lib.rt) promises for every input that its answer and its table are those of `called` (Path). n is any net record, ws a list of
-- weights by which every transition of it balances, g any generator state. The theorem is proofs/Subscribers, subscribers-kept.
use Rattle.std.specs.Prelude.{ℕ, ◌+◌, ◌^◌, ◌≤◌, ◌<◌, ◌≡◌, List, ◌++◌, length, Float}
use Rattle.net.specs.declared.Net.{Net as NetRecord}
use Rattle.net.specs.Net.{Marking, held}
use Rattle.net.specs.Readable.{readable}
use Rattle.rng.specs.State.{State as Generator}
use Rattle.rules.specs.Propensity.{float}
use Rattle.rules.specs.Moves.{Entry, initial_counts}
use Rattle.rules.specs.Run.{trace}
use Rattle.rules.specs.Shown.{run_of}
use Rattle.rules.specs.Moments.{start, moment_after}
use Rattle.rules.specs.Balance.{counts_weigh, weight_of, starts_of, completions_of, running_of, AllCompleted}
use Rattle.rules.specs.Demand3.{earlier}
use Rattle.ssa.specs.Path.{called}
use Rattle.ssa.specs.Demand3.{Answered, cell}

-- what has happened up to a moment of the call's run: a first part of its trace
pub record Happened (n : NetRecord) (g : Generator) (xs : List Float) (k : ℕ) (past : List Entry) : Type 0 where
  pub later : List Entry
  pub parts : trace (run_of (readable n) g xs k) ≡ past ++ later

-- the cells of instant i show counts that together weigh so much
pub record CellsWeigh (n : NetRecord) (ws : List ℕ) (g : Generator) (xs : List Float) (k : ℕ) (t : List Float) (i all : ℕ) : Type 0 where
  pub counts : Marking
  pub shows : (p : ℕ) → p < n.places → cell (length xs) (called n g xs k t) p i ≡ float (held counts p)
  -- at most 2^53, so that a cell is its count itself
  pub exact : (p : ℕ) → held counts p ≤ 2 ^ 53
  pub weigh : counts_weigh ws counts ≡ all

pub record SubscribersKept (n : NetRecord) (ws : List ℕ) (g : Generator) : Type 0 where
  -- "at every moment of any accepted path": any list of instants, limit and table, and whatever has happened so far
  pub moments : (xs : List Float) (k : ℕ) (t : List Float) → Answered (called n g xs k t)
      → (past : List Entry) → Happened n g xs k past
      → weight_of (readable n) ws (moment_after (readable n) (start (readable n)) past) ≡ counts_weigh ws (initial_counts (readable n))
  -- the running timers at a moment are those started and not yet completed, of each transition
  pub running : (xs : List Float) (k : ℕ) (t : List Float) → Answered (called n g xs k t)
      → (past : List Entry) → Happened n g xs k past
      → (j : ℕ) → starts_of j past ≡ completions_of j past + running_of j (moment_after (readable n) (start (readable n)) past).timers
  -- what follows for the table: at an instant where no timer runs, its cells weigh what the initial counts do
  pub cells : (xs : List Float) (k : ℕ) (t : List Float) → Answered (called n g xs k t)
      → (i : ℕ) → i < length xs → AllCompleted (earlier (readable n) g xs k i)
      → CellsWeigh n ws g xs k t i (counts_weigh ws (initial_counts (readable n)))
