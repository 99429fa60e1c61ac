-- The table says of every slot its limit, or that a test may end there; from transition j on it is as it was. Assumes nothing.
use mathlib.Core.Path.{◌≡◌}
use Prim.Native.Nat.{ℕ, ◌*◌, ◌≤◌}
use lib.ListN.{length, get_or}
use Rattle.engine.specs.Limits.{Says}
use Rattle.engine.proofs.slots.mark_rests.Given as goal

abbrev pub invariant-loop-j : goal.invariant-loop-j
invariant-loop-j l =
    (length l.limit ≡ 1024) × ((a : ℕ) → 16 * l.j ≤ a → get_or l.limit a 0 ≡ get_or l.initial.limit a 0) × ((a : ℕ) → Says l.arcs (λ (b : ℕ). get_or l.initial.limit b 0) a (get_or l.limit a 0))
