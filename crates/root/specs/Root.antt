-- The square root of a binary64, worked out: a definition that computes. `Theorems` states that it is the root of `Nearest`. Definitions only.
use Rattle.std.specs.Prelude.{ℕ, zero, suc, ◌+◌, ◌-◌, ◌*◌, ◌/◌, ◌^◌, true, false, cond, nat_le, Float}
use Rattle.std.specs.Float.{nan, inf, fin}
use Rattle.std.specs.Float.Ieee.{up, down, size, odd}

-- "comparing whole-number squares": the root of n cut to a whole number, for an n below 4 ^ d. It is twice the root of n / 4, or one more where the
-- square of that is still no more than n.
unfoldable pub whole_root : ℕ → ℕ → ℕ
whole_root zero n = 0
whole_root (suc d) n = let r = 2 * whole_root d (n / 4) in cond (nat_le ((r + 1) * (r + 1)) n) (r + 1) r

-- "the binary64 nearest": the value nearest to the root of n, in units of 2 ^ -1074, for an n of at least 105 binary digits.
-- The root lies from 2 ^ (52 + k) up to 2 ^ (53 + k), where the values of the format are 2 ^ k units apart. h is twice the root in steps of 2 ^ k, cut to
-- a whole number, so (h + 1) / 2 is the nearest number of steps.
unfoldable pub root_in : ℕ → Float
unfolding size odd whole_root
root_in n =
    let k = (size n - 105) / 2 in
    let h = whole_root 54 (4 * n / 4 ^ k) in
    odd 53 false ((h + 1) / 2) k 1074

-- "NaN and negatives give NaN; either zero and +infinity return themselves". Any other value is (suc m) * 2 ^ e * 2 ^ 1074 units, and its root, in units,
-- is the root of 2 ^ 1074 times that.
unfoldable pub root_of : Float → Float
unfolding root_in
root_of nan = nan
root_of (inf true) = nan
root_of (inf false) = inf false
root_of (fin s zero e) = fin s zero e
root_of (fin true (suc m) e) = nan
root_of (fin false (suc m) e) = root_in (suc m * up e * 2 ^ 1074 / down e * 2 ^ 1074)
