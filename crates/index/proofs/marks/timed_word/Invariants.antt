-- The transitions before j are marked where their delay is above 0 (Marking). Assumes nothing.
use Prim.Native.Nat.{ℕ}
use Rattle.net.specs.Net.{timed}
use Rattle.net.specs.Readable.{transition}
use Rattle.net.specs.Record.{net_of}
use Rattle.index.proofs.Marking.{Marked}
use Rattle.index.proofs.marks.timed_word.Given as goal

abbrev pub invariant-loop-j : goal.invariant-loop-j
invariant-loop-j l = Marked (λ (j : ℕ). timed (transition (net_of l.net) j)) l.net.transitions l.word l.j
