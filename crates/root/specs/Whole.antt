-- The nearest root among the whole numbers, for the functions that work on the digits. Definitions only.
use Rattle.std.specs.Prelude.{ℕ, ◌+◌, ◌-◌, ◌*◌, ◌<◌}

-- q is the whole number nearest to the root of n: the root lies strictly between the midpoints q - 1/2 and q + 1/2, both doubled and squared.
pub record NearestWhole (n q : ℕ) : Type 0 where
  pub above : (2 * q - 1) * (2 * q - 1) < 4 * n
  pub under : 4 * n < (2 * q + 1) * (2 * q + 1)
