-- The rates below j are tidied. Assumes nothing.
use Rattle.std.proofs.Common.{◌≡◌, ℕ, ◌<◌, length, get_or}
use Rattle.std.specs.Float.{nan}
use Rattle.sde.specs.Slots.{tidy}
use Rattle.sde.proofs.propensity.fill_rates.Given as goal

abbrev pub invariant-loop-j : goal.invariant-loop-j
invariant-loop-j l = (length l.rates ≡ 64) × ((b : ℕ) → b < l.j → get_or l.rates b nan ≡ tidy (get_or l.net.rate.now b nan) (get_or l.net.delay.now b nan))
