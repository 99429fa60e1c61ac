-- The cells below c are filled. Assumes nothing.
use Rattle.std.proofs.Common.{ℕ, ◌*◌, ◌/◌, ◌%◌, ◌<◌, get_or}
use Rattle.sde.specs.Slots.{Skip}
use Rattle.sde.proofs.change.fill_skips.Given as goal

abbrev pub invariant-loop-c : goal.invariant-loop-c
invariant-loop-c l = (b : ℕ) → b < l.c → Skip l.places (32 * (b / 33)) l.changes (b % 33) (get_or l.skips b 0)
