-- The slots from a on had no limit and are marked, and those before a stand as they did; a turn marks the one before a. Assumes nothing.
use Prim.Native.Nat.{◌≤◌}
use Rattle.engine.specs.Limits.{Rest}
use Rattle.engine.proofs.slots.mark_rest.Given as goal

abbrev pub invariant-loop-a : goal.invariant-loop-a
invariant-loop-a l = (l.from ≤ l.a) × (l.a ≤ l.end) × Rest l.a l.end l.initial.limit l.limit
