-- The invariant: the first c cells have their sum, and the others stay (Fronts). Assumes nothing.
use Rattle.std.proofs.Common.{◌≡◌, ◌-◌, length}
use Rattle.averages.specs.Front as Front
use Rattle.averages.specs.Moments as Moments
use Rattle.averages.proofs.moments.add.Given as goal

abbrev pub invariant-loop-c : goal.invariant-loop-c
invariant-loop-c l =
    (length l.sums ≡ length l.initial.sums) × (l.sums ≡ Front.with_front Moments.plus l.c l.path l.initial.sums)
