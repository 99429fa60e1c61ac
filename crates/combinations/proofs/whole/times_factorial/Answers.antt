-- The parts of n, times w!, which is above 0. Assumes nothing.
use native.Mathlib.Omega.{arith}
use mathlib.Core.Path.{sym, subst}
use Prim.Native.Nat.{ℕ, ◌<◌}
use Rattle.combinations.proofs.Binomial.{factorial_pos}
use Rattle.combinations.proofs.whole.times_factorial.Goals as goal

pub times-requires : goal.times-requires
times-requires c =
    let s = c.args in
    (subst (λ (f : ℕ). 0 < f) (sym c.factorial.ensures) (factorial_pos s.w), omega (arith, c.stripped-p.ensures.3))
