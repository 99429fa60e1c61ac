-- `whole_root` meets its contract: a turn finds the next digit (`skipped`, `taken`). Assumes nothing.
use Rattle.std.proofs.Common.{arith}
use Rattle.root.proofs.Turns.{root_lt, skipped, taken}
use Rattle.root.proofs.whole_root.Goals as goal
use Rattle.root.proofs.whole_root.Goals.{then-trial-t, else-trial-t}

pub overflow_mul-t : goal.overflow_mul-t
overflow_mul-t c = omega (arith, root_lt c.loop.invariant)

pub overflow_add-t : goal.overflow_add-t
overflow_add-t c = omega (arith, root_lt c.loop.invariant)

pub overflow_mul-trial : goal.overflow_mul-trial
overflow_mul-trial c = omega (arith, root_lt c.loop.invariant)

pub overflow_add-trial : goal.overflow_add-trial
overflow_add-trial c = omega (arith, root_lt c.loop.invariant)

pub loop-preserved : goal.loop-preserved
loop-preserved c =
    elim c.if-trial-t.branch [
      | then-trial-t w ↦ rw (w.root-is, w.rem-is) (taken c.loop.invariant c.loop-test.true w.if-trial-t.true)
      | else-trial-t w ↦ rw (w.root-is, w.rem-is) (skipped c.loop.invariant c.loop-test.true w.if-trial-t.false)
    ]
