-- The invariant: the first i cells are instants by their numbers, and the others stay (Fronts). Assumes nothing.
use Rattle.std.proofs.Common.{◌≡◌, ◌-◌, length}
use Rattle.averages.specs.Front as Front
use Rattle.averages.specs.Request as Spec
use Rattle.averages.proofs.request.fill_grid.Given as goal

abbrev pub invariant-loop-i : goal.invariant-loop-i
invariant-loop-i l =
    (length l.instants ≡ length l.initial.instants) × (l.instants ≡ Front.by_number (Spec.instant l.width) 0 l.i l.initial.instants)
