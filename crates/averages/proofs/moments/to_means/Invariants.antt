-- The invariant: the first c cells are means, and the others stay (Fronts). Assumes nothing.
use Rattle.std.proofs.Common.{◌≡◌, ◌-◌, length}
use Rattle.averages.specs.Front as Front
use Rattle.averages.specs.Moments as Moments
use Rattle.averages.proofs.moments.to_means.Given as goal

abbrev pub invariant-loop-c : goal.invariant-loop-c
invariant-loop-c l =
    (length l.sums ≡ length l.initial.sums) × (l.sums ≡ Front.on_front (Moments.mean_of l.n) l.c l.initial.sums)
