-- From a on no slot is a kinetic take. Assumes nothing.
use mathlib.Core.Path.{◌≡◌}
use Prim.Native.Nat.{ℕ, ◌≤◌, ◌<◌}
use lib.ListN.{get_or}
use Rattle.kept.proofs.tables.end_of.Given as goal

abbrev pub invariant-loop-a : goal.invariant-loop-a
invariant-loop-a l = (l.from ≤ l.a) × ((b : ℕ) → l.a ≤ b → l.from ≤ b → b < l.end → get_or l.kind b 0 ≡ 0 → ⊥)
