-- Those that left the word are marked where they are rounded (Bitwise). Assumes nothing.
use Prim.Native.Nat.{ℕ}
use mathlib.Core.Bool.{Bool}
use mathlib.Core.List.{List}
use Rattle.net.specs.declared.Net.{Net as NetRecord}
use Rattle.net.specs.Readable.{readable}
use Rattle.net.specs.Record.{net_of}
use Rattle.rules.specs.Exact.{rounded}
use Rattle.rules.specs.Moves.{transition}
use Rattle.engine.specs.Engine.{marking}
use Rattle.kept.proofs.Bitwise.{Setting}
use Rattle.kept.proofs.marks.remark.Given as goal

abbrev pub rounds : NetRecord → List ℕ → ℕ → Bool
rounds n counts j = rounded (readable n) (marking n.places counts) (transition (readable n) j)

abbrev pub invariant-loop-left : goal.invariant-loop-left
invariant-loop-left l = Setting (rounds (net_of l.net) l.counts) l.word l.marks l.found l.left

abbrev pub decreases-loop-left : goal.decreases-loop-left
decreases-loop-left l = l.left
