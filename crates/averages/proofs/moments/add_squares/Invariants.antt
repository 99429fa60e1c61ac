-- The invariant: the first c cells have their sum of squares, and the others stay (Fronts). Assumes nothing.
use Rattle.std.proofs.Common.{◌≡◌, ◌-◌, length}
use Rattle.averages.specs.Front as Front
use Rattle.averages.specs.Moments as Moments
use Rattle.averages.proofs.moments.add_squares.Given as goal

abbrev pub invariant-loop-c : goal.invariant-loop-c
invariant-loop-c l =
    (length l.squares ≡ length l.initial.squares) × (l.squares ≡ Front.with_front Moments.plus_square l.c l.path l.initial.squares)
