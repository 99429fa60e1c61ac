-- The product fits, since an amount is at most 1,000,000. Assumes nothing.
use mathlib.Core.Path.{ap}
use Prim.Native.Nat.{ℕ, ◌*◌}
use native.Mathlib.Omega.{arith}
use Rattle.balance.proofs.Weights.{times_most}
use Rattle.balance.proofs.weighing.arc_weight.Goals as goal

pub overflow_mul-result : goal.overflow_mul-result
overflow_mul-result c =
    let s = c in
    rw c.amount-m.ensures (omega (arith, times_most s.args.w s.args.weight s.requires.0 s.requires.1))

pub returns : goal.returns
returns c = ap (λ (m : ℕ). c.args.w * m) c.amount-m.ensures
