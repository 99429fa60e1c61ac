-- Those that left the word are worked out again (Bitwise). Assumes nothing.
use Prim.Native.Nat.{ℕ}
use mathlib.Core.List.{List}
use lib.Ieee.{Float}
use Rattle.words.specs.Bits.{bit}
use Rattle.net.specs.declared.Net.{Net as NetRecord}
use Rattle.net.specs.Net.{rate_of}
use Rattle.net.specs.Readable.{readable}
use Rattle.net.specs.Record.{net_of}
use Rattle.rules.specs.Moves.{transition}
use Rattle.rules.specs.Propensity.{factored}
use Rattle.engine.specs.Engine.{marking}
use Rattle.kept.proofs.Bitwise.{Walk, Working}
use Rattle.kept.proofs.values.revalue.Given as goal

abbrev pub worth : NetRecord → List ℕ → ℕ → Float
worth n counts j = factored (marking n.places counts) (rate_of (transition (readable n) j)) (transition (readable n) j).takes

abbrev pub invariant-loop-left : goal.invariant-loop-left
invariant-loop-left l = Walk l.word l.left × Working (bit l.word) (worth (net_of l.net) l.counts) l.initial.props l.props l.left

abbrev pub decreases-loop-left : goal.decreases-loop-left
decreases-loop-left l = l.left
