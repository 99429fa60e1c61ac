-- The table says the limits of the slots below a. Assumes nothing.
use Rattle.net.specs.Record.{net_of}
use lib.ListN.{length, get_or}
use Rattle.engine.specs.Limits.{limit_at}
use mathlib.Core.Path.{◌≡◌}
use Prim.Native.Nat.{ℕ, ◌<◌, ◌≤◌}
use Rattle.engine.proofs.slots.fill_slots.Given as goal

abbrev pub invariant-loop-a : goal.invariant-loop-a
invariant-loop-a l =
    (l.net.transitions ≤ 64) × (length l.limit ≡ 1024) × ((b : ℕ) → b < l.a → get_or l.limit b 0 ≡ limit_at (net_of l.net) b)
