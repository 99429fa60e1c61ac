-- The cells below c are filled. Assumes nothing.
use Rattle.std.proofs.Common.{◌≡◌, ℕ, ◌<◌, length, get_or}
use Rattle.std.specs.Float.{nan}
use Rattle.net.specs.Record.{net_of}
use Rattle.sde.specs.Slots.{change_of}
use Rattle.sde.proofs.change.fill_changes.Given as goal

abbrev pub invariant-loop-c : goal.invariant-loop-c
invariant-loop-c l = (length l.changes ≡ 2048) × ((b : ℕ) → b < l.c → get_or l.changes b nan ≡ change_of (net_of l.net) b)
