-- The ends before j are filled. Assumes nothing.
use mathlib.Core.Path.{◌≡◌}
use Prim.Native.Nat.{ℕ, ◌+◌, ◌-◌, ◌*◌, ◌≤◌, ◌<◌}
use lib.ListN.{get_or}
use Rattle.net.specs.declared.Net.{Net as NetRecord}
use Rattle.net.specs.Record.{net_of}
use Rattle.kept.specs.Kept.{Alone, Two}
use Rattle.kept.proofs.Filling.{Filling}
use Rattle.kept.proofs.tables.ends_of.Given as goal

-- what the table has to say of transition j
pub record End (n : NetRecord) (j x : ℕ) : Type 0 where
  pub inside : x < 2048 → x ≤ 16 * j + get_or n.arcs j 0
  pub behind : (a : ℕ) → x < 2048 → x ≤ a → 16 * j ≤ a → a < 16 * j + get_or n.arcs j 0 → get_or n.kind a 0 ≡ 0 → ⊥
  pub alone : 2048 ≤ x → x < 4096 → Alone n j (x - 2048)
  pub two : 4096 ≤ x → Two n j

abbrev pub invariant-loop-j : goal.invariant-loop-j
invariant-loop-j l = Filling 0 (End (net_of l.net)) l.ends l.j
