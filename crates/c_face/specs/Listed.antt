-- A timer list in numbers: the ring and a timer in three each, a queue in three arrays and a length. Definitions only.
use Rattle.std.specs.Prelude.{ℕ, List, Float}
use Rattle.rules.specs.Timers.{Timer}
use Rattle.timers.specs.declared.Ring.{Ring}
use Rattle.timers.specs.declared.queue.Queue.{Queue}

abbrev pub ring : ℕ → ℕ → ℕ → Ring
ring start len ordered = record { start = start; len = len; ordered = ordered }

abbrev pub timer : Float → ℕ → ℕ → Timer
timer at who taken = record { at = at; who = who; taken = taken }

abbrev pub queue : List Float → List ℕ → List ℕ → ℕ → Queue
queue ats whos takens len = record { ats = ats; whos = whos; takens = takens; len = len }
