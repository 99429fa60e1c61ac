-- A timer list handed in or out. Document 02, order 9: "carried states still give the first timer first".
use Rattle.std.specs.Prelude.{ℕ, ◌≤◌, ◌<◌, min, ◌≡◌, List, get_or, Float}
use Rattle.std.specs.Float.{nan}
use Rattle.net.specs.Net.{pick, zero64}
use Rattle.rules.specs.Timers.{Timer}
use Rattle.timers.specs.declared.Ring.{Ring}
use Rattle.timers.specs.declared.queue.Queue.{Queue}
use Rattle.timers.specs.InOrder.{in_order}
use Rattle.timers.specs.Turning.{held, from, running, timers_of, Sound}

-- number k of a queue
abbrev pub waiting : Queue → ℕ → Timer
waiting q k = record { at = get_or q.ats k nan; who = get_or q.whos k 0; taken = get_or q.takens k 0 }

-- the list that a queue is; of a length above 256 only 256 counts
abbrev pub queue_of : Queue → List Timer
queue_of q = from (waiting q) 0 (min q.len 256)

-- what a queue has beyond its timers
abbrev pub blank : Timer
blank = record { at = zero64; who = 0; taken = 0 }

-- A queue handed in: its list is the ring's, from slot 0 on, and the slots beyond it stand. Whether it is in order is looked at.
pub record HandedIn (q : Queue) (ats : List Float) (owners : List ℕ) (ats' : List Float) (owners' : List ℕ) (r : Ring) : Type 0 where
  pub list : timers_of ats' owners' r ≡ queue_of q
  pub start : r.start ≡ 0
  pub ordered : r.ordered ≡ pick (in_order (queue_of q)) 1 0
  pub sound : Sound ats' owners' r
  pub beyond : (k : ℕ) → running r ≤ k → k < 256 → held ats' owners' k ≡ held ats owners k

-- A list handed out: it is the queue's, which has zeros beyond it.
pub record HandedOut (ats : List Float) (owners : List ℕ) (r : Ring) (q : Queue) : Type 0 where
  pub list : queue_of q ≡ timers_of ats owners r
  pub long : q.len ≡ running r
  pub beyond : (k : ℕ) → running r ≤ k → k < 256 → waiting q k ≡ blank
