-- What the starts of a step leave, in the rules' words.
use Rattle.std.specs.Prelude.{ℕ, ◌≡◌, not, Bool, List, Result, Ok, Err}
use Rattle.refusals.specs as Refusal
use Rattle.net.specs.Net.{Marking}
use Rattle.rules.specs.Timers.{Timer}
use Rattle.rules.specs.Step.{Answer, refused, given, Starts, nobody}
use Rattle.timers.specs.declared.Ring.{Ring}
use Rattle.playing.specs.declared.starts.Started.{Started}

-- the starts leave these counts and timers, and any says whether one started
pub record Begun (spec : Answer Starts) (counts : Marking) (queue : List Timer) (any : Bool) : Type 0 where
  pub who : List ℕ
  pub is : spec ≡ given (record { who = who; counts = counts; timers = queue })
  pub none : nobody who ≡ not any

-- or they are refused by 15
abbrev pub Full : Answer Starts → Type 0
Full spec = spec ≡ refused Refusal.too_many_timers

-- Starts in one or several passes, and the program's answer, whose timers are those of its ring.
abbrev pub StartsAre : Answer Starts → Marking → (Ring → List Timer) → Result Started Ring → Type 0
StartsAre spec counts queue (Ok s) = Begun spec counts (queue s.timers) s.any
StartsAre spec counts queue (Err k) = Full spec

-- the ring that is left
abbrev pub ring_of : Result Started Ring → Ring
ring_of (Ok s) = s.timers
ring_of (Err k) = k
