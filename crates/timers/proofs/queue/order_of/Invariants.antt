-- What is left, read from the last time passed, is in order exactly where the whole is.
use mathlib.Core.Path.{◌≡◌}
use mathlib.Core.List.{List}
use Prim.Native.Nat.{ℕ, ◌-◌}
use Rattle.timers.specs.InOrder.{in_order, rises_from}
use Rattle.timers.specs.Turning.{from, held}
use Rattle.timers.proofs.queue.order_of.Given as goal

abbrev pub invariant-loop-i : goal.invariant-loop-i
invariant-loop-i l =
    ((owners : List ℕ) → in_order (from (held l.ats owners) 0 l.n) ≡ rises_from l.last (from (held l.ats owners) l.i (l.n - l.i)))
