-- What the tables of a run stand for: the bounds of the net that it is lent, the counts, and what the functions over them leave. The rules of a run
-- are in the crate rules; nothing here adds to them.
use Rattle.std.specs.Prelude.{ℕ, zero, suc, ◌^◌, ◌≤◌, ◌<◌, ◌≡◌, Bool, true, false, ◌||◌, List, [], ◌∷◌, length, get_or, take, Float}
use Rattle.std.specs.Float.Ieee.{lt}
use Rattle.net.specs.declared.Net.{Net as NetRecord}
use Rattle.net.specs.Net.{Marking, zero64}
use Rattle.net.specs.Readable as Record
use Rattle.net.specs.Readable.{Slot, is_put, takes_of}
use Rattle.rules.specs.Propensity.{propensities, total}
use Rattle.rules.specs.Step.{counts_fit}
use Rattle.rules.specs.Demand3.{takes_once}

-- ---- the net

abbrev pub AtMost : ℕ → List ℕ → Type 0
AtMost b xs = (a : ℕ) → get_or xs a 0 ≤ b

abbrev pub Below : ℕ → List ℕ → Type 0
Below b xs = (a : ℕ) → get_or xs a 0 < b

-- behind a put nothing is taken
abbrev pub PutsLast : List Slot → Type 0
PutsLast [] = Unit {0}
PutsLast (l ∷ ls) = (is_put l.kind ≡ true → takes_of ls ≡ []) × PutsLast ls

-- the bounds of an accepted net, once its slots are in order and the unused ones cleared: those of slots hold in every slot, used or not
pub record Tidy (n : NetRecord) : Type 0 where
  pub places : n.places ≤ 32
  pub transitions : n.transitions ≤ 64
  pub arcs : AtMost 16 n.arcs
  pub place : Below n.places n.place
  pub weight : AtMost 1_000_000 n.weight
  pub capacity : (p : ℕ) → p < n.places → get_or n.capacity p 0 ≤ 2 ^ 53
  pub once : takes_once (Record.readable n).transitions ≡ true
  pub order : (j : ℕ) → j < n.transitions → PutsLast (Record.slots_of n j)

-- r is the net n with its slots in order: it reads as n, and is tidy
pub record Tidied (n r : NetRecord) : Type 0 where
  pub reads : Record.readable r ≡ Record.readable n
  pub tidy : Tidy r

-- whether one of the first k delays is above 0
abbrev pub some_above : List Float → Bool
some_above [] = false
some_above (d ∷ ds) = lt zero64 d || some_above ds

abbrev pub any_timed : ℕ → List Float → Bool
any_timed k delay = some_above (take k delay)

-- ---- the state

-- the counts of the places
abbrev pub marking : ℕ → List ℕ → Marking
marking places counts = take places counts

-- the initial counts of k places from number p on
abbrev pub counts_from : List ℕ → ℕ → ℕ → Marking
counts_from initial p zero = []
counts_from initial p (suc k) = get_or initial p 0 ∷ counts_from initial (suc p) k

-- the counts stay at or below 2^53, in places that there are not too
pub record Counts (counts : List ℕ) : Type 0 where
  pub long : length counts ≡ 32
  pub small : AtMost (2 ^ 53) counts

-- ---- what functions leave

-- the propensities at these counts, and their total
pub record Totalled (n : NetRecord) (counts : List ℕ) (props : List Float) (a0 : Float) : Type 0 where
  pub each : take n.transitions props ≡ propensities (Record.readable n) (marking n.places counts)
  pub all : a0 ≡ total (propensities (Record.readable n) (marking n.places counts))
  pub long : length props ≡ 64

-- a put: whether the counts that it gives fit, and where they do, that they are these
pub record PutBy (fits : Bool) (wanted found : Marking) : Type 0 where
  pub says : fits ≡ counts_fit wanted
  pub gives : fits ≡ true → found ≡ wanted
