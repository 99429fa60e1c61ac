-- Invariant: after i turns the parts hold the product of the first i factors. Assumes nothing.
use Rattle.combinations.specs.Binomial.{falling}
use Rattle.combinations.specs.Parts.{Holds}
use Prim.Native.Nat.{◌-◌, ◌*◌, ◌≤◌}
use Rattle.combinations.proofs.whole.falling_parts.Given as goal

abbrev pub invariant-loop-i : goal.invariant-loop-i
invariant-loop-i l = (l.i ≤ l.count) × Holds (falling l.top l.i) l.p.high l.p.low l.p.twos × (l.p.twos ≤ 64 * l.i)

abbrev pub decreases-loop-i : goal.decreases-loop-i
decreases-loop-i l = l.count - l.i
