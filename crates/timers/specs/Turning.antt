-- The timer list that turns. Document 02, order 9: "hold it with a movable start, wrapping at 256". 256 slots hold timers, and the list is read from its
-- start on. Every ring is a list: a start is taken modulo 256, and of a length above 256 only 256 counts.
use Rattle.std.specs.Prelude.{ℕ, zero, suc, ◌+◌, ◌*◌, ◌%◌, ◌<◌, min, ◌≡◌, Bool, true, false, List, [], ◌∷◌, ltb, eqb, length, get_or, Float}
use Rattle.std.specs.Float.{nan}
use Rattle.std.specs.Float.Ieee.{le}
use Rattle.net.specs.Net.{pick}
use Rattle.rules.specs.Timers.{Timer, insert, first, others}
use Rattle.timers.specs.declared.Ring.{Ring}
use Rattle.timers.specs.declared.Timer.{Timer as TimerStruct}
use Rattle.timers.specs.InOrder.{in_order, insert_last}

abbrev pub timer_of : TimerStruct → Timer
timer_of x = record { at = x.at; who = x.who; taken = x.taken }

-- what is read where no timer runs
abbrev pub idle : Timer
idle = first []

-- what slot k holds: its completion time, and of its owner the transition's number and the weight that the start took
abbrev pub held : List Float → List ℕ → ℕ → Timer
held ats owners k = record { at = get_or ats k nan; who = get_or owners (2 * k) 0; taken = get_or owners (2 * k + 1) 0 }

-- n timers from place p on; place p is slot p modulo 256
abbrev pub from : (ℕ → Timer) → ℕ → ℕ → List Timer
from slots p zero = []
from slots p (suc n) = slots (p % 256) ∷ from slots (suc p) n

-- how many timers a ring holds
abbrev pub running : Ring → ℕ
running r = min r.len 256

-- the slot of its timer i, the first being 0
abbrev pub slot_of : Ring → ℕ → ℕ
slot_of r i = (r.start + i) % 256

-- "what it holds, read from its start": the first to leave first
abbrev pub timers_of : List Float → List ℕ → Ring → List Timer
timers_of ats owners r = from (held ats owners) r.start (running r)

-- whether a ring says that its list is in order
abbrev pub says_ordered : Ring → Bool
says_ordered r = eqb r.ordered 1

-- a ring that says so has a list in order
abbrev pub Sound : List Float → List ℕ → Ring → Type 0
Sound ats owners r = says_ordered r ≡ true → in_order (timers_of ats owners r) ≡ true

-- ---- what a caller is told

-- 256 timers run at most, or as many as a caller gives room for
abbrev pub has_room : ℕ → List Timer → Bool
has_room room xs = ltb (length xs) (min room 256)

-- where a new timer goes: looked for from the end in a list that is said to be in order, else from the front
abbrev pub placed : Bool → Timer → List Timer → List Timer
placed ordered x xs = pick ordered (insert_last x xs) (insert x xs)

-- The ring of no timers, over whatever slots.
pub record NoTimers (r : Ring) : Type 0 where
  pub list : (ats : List Float) (owners : List ℕ) → timers_of ats owners r ≡ []
  pub ordered : r.ordered ≡ 1

-- An insertion of x into the ring r over ats and owners, which leaves r' over ats' and owners'. Of a sound ring the list is then the rules' (`list`), and the
-- ring is sound again; `every` says what becomes of any ring, one too that says wrongly that its list is in order.
pub record InsertedIn (room : ℕ) (x : Timer) (ats : List Float) (owners : List ℕ) (r : Ring) (ats' : List Float) (owners' : List ℕ) (r' : Ring) (taken : Bool)
    : Type 0 where
  pub says : taken ≡ has_room room (timers_of ats owners r)
  pub list : Sound ats owners r
      → timers_of ats' owners' r' ≡ pick (has_room room (timers_of ats owners r)) (insert x (timers_of ats owners r)) (timers_of ats owners r)
  pub stays : Sound ats owners r → Sound ats' owners' r'
  pub every : timers_of ats' owners' r'
      ≡ pick (has_room room (timers_of ats owners r)) (placed (says_ordered r) x (timers_of ats owners r)) (timers_of ats owners r)
  -- a refusal leaves everything
  pub refused : taken ≡ false → (ats' ≡ ats) × (owners' ≡ owners) × (r' ≡ r)
  -- the list starts where it did, and the slots beyond it and its new entry stand
  pub start : r'.start ≡ r.start
  pub beyond : (p : ℕ) → r.start + running r < p → p < r.start + 256 → held ats' owners' (p % 256) ≡ held ats owners (p % 256)
  -- a completion time that is no number is in no order
  pub ordered : taken ≡ true → r'.ordered ≡ pick (le x.at x.at) r.ordered 0

-- A removal of the first, which is not lent the slots, so that it moves no entry: whatever they hold, the list is the others, each in the slot where it was,
-- and the order is known as before. Where none runs the ring stays.
pub record RemovedFrom (before after : Ring) : Type 0 where
  pub list : (ats : List Float) (owners : List ℕ) → timers_of ats owners after ≡ others (timers_of ats owners before)
  pub stays : (ats : List Float) (owners : List ℕ) → Sound ats owners before → Sound ats owners after
  pub slots : 0 < running before → (i : ℕ) → slot_of after i ≡ slot_of before (suc i)
  pub none : running before ≡ 0 → after ≡ before
  pub ordered : after.ordered ≡ before.ordered
