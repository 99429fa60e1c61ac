-- No transition before j is chosen, by the kept sums (`reached`). Assumes nothing.
use Prim.Native.Nat.{ℕ, ◌<◌}
use mathlib.Core.Path.{◌≡◌}
use mathlib.Core.Bool.{false}
use lib.ListN.{get_or}
use lib.Ieee.{nan}
use Rattle.jump.proofs.Choosing.{reached}
use Rattle.jump.proofs.sums.choose_by_sums.Given as goal

abbrev pub invariant-loop-j : goal.invariant-loop-j
invariant-loop-j l = (i : ℕ) → i < l.j → reached l.r (get_or l.props i nan) (get_or l.sums i nan) ≡ false
