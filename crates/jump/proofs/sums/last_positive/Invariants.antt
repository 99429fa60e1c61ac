-- None from j on is positive. Assumes nothing.
use Prim.Native.Nat.{ℕ, ◌≤◌, ◌<◌}
use mathlib.Core.Path.{◌≡◌}
use mathlib.Core.Bool.{false}
use lib.ListN.{get_or}
use lib.Ieee.{nan, lt}
use Rattle.net.specs.Net.{zero64}
use Rattle.jump.proofs.sums.last_positive.Given as goal

abbrev pub invariant-loop-j : goal.invariant-loop-j
invariant-loop-j l = (i : ℕ) → l.j ≤ i → i < l.transitions → lt zero64 (get_or l.props i nan) ≡ false
