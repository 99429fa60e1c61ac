-- Demand 3: one claim about whole runs and any two of them. Document 01, "The run of demand 3".
-- It speaks of what path calls answer and leave in their tables: `path` (src/lib.rt) promises for every input that its answer and its table are
-- those of `called` (Path). n is any net record, g any generator state, and a call that is not refused is one whose end is quiet, spent or reached.
-- The theorem is proofs/Demand3, demand3.
use Rattle.std.specs.Prelude.{ℕ, ◌+◌, ◌*◌, ◌^◌, ◌≤◌, ◌<◌, ◌≡◌, true, List, get_or, length, Float}
use Rattle.std.specs.Float.{nan}
use Rattle.std.specs.Float.Ieee.{eq}
use Rattle.net.specs.declared.Net.{Net as NetRecord}
use Rattle.net.specs.Net.{held}
use Rattle.net.specs.Readable.{readable}
use Rattle.rng.specs.State.{State as Generator}
use Rattle.rules.specs.Propensity.{float}
use Rattle.rules.specs.Moves.{initial_counts, put_at, taken_at}
use Rattle.rules.specs.Step.{given}
use Rattle.rules.specs.Run.{End, trace}
use Rattle.rules.specs.Shown.{run_of}
use Rattle.rules.specs.Demand3.{instant, earlier, EachAllowed}
use Rattle.ssa.specs.Path.{Call, called}

-- a call that is not refused
pub record Answered (c : Call) : Type 0 where
  pub how : End
  pub ends : c.end ≡ given how

-- "The count shown for place p at instant i is cell p × n + i once the call is back": of n instants
abbrev pub cell : ℕ → Call → ℕ → ℕ → Float
cell n c p i = get_or c.table (p * n + i) nan

-- The cell shows a count, a whole number and so not negative: "the initial count plus all put there less all taken there before the clock first
-- reached that instant, or in the whole run if it never did". It is said without a difference: initial plus put is count plus taken.
pub record Balanced (n : NetRecord) (g : Generator) (xs : List Float) (k i p : ℕ) (shown : Float) : Type 0 where
  pub count : ℕ
  -- at most 2^53, so that its float is the count itself
  pub exact : count ≤ 2 ^ 53
  pub shows : shown ≡ float count
  pub balance : held (initial_counts (readable n)) p + put_at (readable n) p (earlier (readable n) g xs k i)
      ≡ count + taken_at (readable n) p (earlier (readable n) g xs k i)

pub record Demand3 (n : NetRecord) (g : Generator) : Type 0 where
  -- equal limits: an instant found in both lists, an equal number at whatever positions, shows the same counts in both
  pub two_lists : (xs ys : List Float) (k : ℕ) (t u : List Float) → Answered (called n g xs k t) → Answered (called n g ys k u)
      → (i j : ℕ) → i < length xs → j < length ys → eq (instant xs i) (instant ys j) ≡ true
      → (p : ℕ) → p < n.places → cell (length xs) (called n g xs k t) p i ≡ cell (length ys) (called n g ys k u) p j
  -- one list, two limits: every instant that the call with the smaller limit reports settled shows the same counts in both
  pub two_limits : (xs : List Float) (k l : ℕ) (t u : List Float) → Answered (called n g xs k t) → Answered (called n g xs l u) → k ≤ l
      → (i : ℕ) → i < (called n g xs k t).settled
      → (p : ℕ) → p < n.places → cell (length xs) (called n g xs k t) p i ≡ cell (length xs) (called n g xs l u) p i
  -- in each call, every place, every instant
  pub counts : (xs : List Float) (k : ℕ) (t : List Float) → Answered (called n g xs k t)
      → (i : ℕ) → i < length xs → (p : ℕ) → p < n.places → Balanced n g xs k i p (cell (length xs) (called n g xs k t) p i)
  -- each transition that starts or fires is enabled just then, on the counts just before
  pub allowed : (xs : List Float) (k : ℕ) (t : List Float) → Answered (called n g xs k t)
      → EachAllowed (readable n) (initial_counts (readable n)) (trace (run_of (readable n) g xs k))
