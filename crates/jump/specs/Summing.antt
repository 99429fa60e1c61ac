-- Propensities with their running sums, kept from step to step: the first k of them, of which a0 is the total.
use Rattle.std.specs.Prelude.{ℕ, ◌≡◌, List, take, Float}
use Rattle.rules.specs.Propensity.{total}
use Rattle.rules.specs.RunningSums.{SumsKept}

pub record Summed (k : ℕ) (props sums : List Float) (a0 : Float) : Type 0 where
  pub each : SumsKept k (take k props) sums
  pub all : a0 ≡ total (take k props)
