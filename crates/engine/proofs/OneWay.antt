-- One of m tokens is taken in m ways, exactly, and several exactly up to the bound of their number: `one_is_exact` and `exact_up_to` of the crate
-- combinations, of the float and of the flag. Assumes nothing.
use Prim.Native.Nat.{ℕ, zero, suc, ◌^◌, ◌≤◌}
use mathlib.Core.Path.{◌≡◌, ap}
use mathlib.Core.Bool.{true}
use lib.Dec.{T, le→leb}
use lib.IntN.{pos}
use lib.ListN.{get_or}
use lib.Ieee.{binary64, in_float}
use Rattle.combinations.specs.Combinations.{as_flag}
use Rattle.combinations.specs.Theorems.{unrounded}
use Rattle.combinations.proofs.Laws.{one_is_exact, exact_up_to}
use Rattle.net.specs.Net.{amount}
use Rattle.rules.specs.Propensity.{float, as_float, ways}
use Rattle.rules.specs.Exact.{exact_ways}

-- a count is a whole number that the format holds
pub count_fits : (n : ℕ) → n ≤ 2 ^ 53 → T (in_float binary64 (pos n))
unfolding in_float
count_fits n h = le→leb n (2 ^ 53) h

pub one_way : (m : ℕ) → m ≤ 2 ^ 53 → ways m 1 ≡ float m
one_way m h = ap as_float (one_is_exact m h)

pub one_exact : (m : ℕ) → m ≤ 2 ^ 53 → exact_ways m 1 ≡ true
unfolding exact_ways
one_exact m h = ap as_flag (one_is_exact m h)

-- a weight of 0 counts as 1
pub exact_to : (w m : ℕ) → m ≤ get_or unrounded w 0 → exact_ways m (amount w) ≡ true
unfolding exact_ways
exact_to zero m h = one_exact m h
exact_to (suc w) m h = ap as_flag (exact_up_to m (suc w) h)
