-- Those that left the word are in the answer where they are enabled, and where they are not their propensity is 0 (Bitwise). Assumes nothing.
use Prim.Native.Nat.{ℕ}
use mathlib.Core.Bool.{Bool, ◌&&◌, not}
use mathlib.Core.List.{List}
use lib.Ieee.{Float}
use Rattle.words.specs.Bits.{bit}
use Rattle.net.specs.declared.Net.{Net as NetRecord}
use Rattle.net.specs.Net.{zero64}
use Rattle.net.specs.Readable.{readable}
use Rattle.net.specs.Record.{net_of}
use Rattle.rules.specs.Enabled.{enabled}
use Rattle.rules.specs.Moves.{transition}
use Rattle.engine.specs.Engine.{marking}
use Rattle.kept.proofs.Bitwise.{Setting, Working}
use Rattle.kept.proofs.openness.retest.Given as goal

abbrev pub may : NetRecord → List ℕ → ℕ → Bool
may n counts j = enabled (readable n) (marking n.places counts) (transition (readable n) j)

-- those that shut
abbrev pub shuts : NetRecord → List ℕ → ℕ → ℕ → Bool
shuts n counts word j = bit word j && not (may n counts j)

abbrev pub nothing : ℕ → Float
nothing j = zero64

abbrev pub invariant-loop-left : goal.invariant-loop-left
invariant-loop-left l =
    Setting (may (net_of l.net) l.counts) l.word l.able l.found l.left × Working (shuts (net_of l.net) l.counts l.word) nothing l.initial.props l.props l.left

abbrev pub decreases-loop-left : goal.decreases-loop-left
decreases-loop-left l = l.left
