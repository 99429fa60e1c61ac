-- No samples: one fewer than none is none, and its float is +0. Otherwise the quotient is as defined. Assumes nothing.
use Rattle.std.proofs.Common.{◌≡◌, ℕ, ◌-◌, ap, arith}
use lib.Ieee.{binary64, div, of_bits, of_int}
use Rattle.rules.specs.Propensity.{float}
use Rattle.averages.proofs.request.interval.Goals as goal

pub returns-then-samples-eq0 : goal.returns-then-samples-eq0
unfolding of_bits of_int
returns-then-samples-eq0 c =
    let e : 0 ≡ c.args.samples - 1 = omega arith in
    ap (λ (n : ℕ). div binary64 c.args.horizon (float n)) e
