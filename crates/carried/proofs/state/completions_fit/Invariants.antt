-- What is left to test of the timers, from number i and the time before it on, is the whole test. A time that does not fit, or is below the one before,
-- ends it.
use Rattle.std.proofs.Common.{◌≡◌, ℕ, ◌-◌, List}
use Rattle.timers.specs.Turning.{from}
use Rattle.carried.specs.Timers.{slot, timers_in}
use Rattle.carried.proofs.Waiting.{on_time}
use Rattle.carried.proofs.state.completions_fit.Given as goal

abbrev pub invariant-loop-i : goal.invariant-loop-i
invariant-loop-i l =
    (whos takens : List ℕ) → on_time l.last (from (slot l.ats whos takens) l.i (l.n - l.i)) ≡ on_time l.clock (timers_in l.ats whos takens l.n)
