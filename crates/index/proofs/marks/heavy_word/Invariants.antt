-- The transitions before j are marked where one of their slots is a kinetic take of several tokens (Marking). Assumes nothing.
use Prim.Native.Nat.{ℕ, ◌≤◌}
use Rattle.net.specs.Readable.{transition}
use Rattle.net.specs.Record.{net_of}
use Rattle.engine.specs.Traits.{takes_several}
use Rattle.index.proofs.Marking.{Marked}
use Rattle.index.proofs.marks.heavy_word.Given as goal

abbrev pub invariant-loop-j : goal.invariant-loop-j
invariant-loop-j l = Marked (λ (j : ℕ). takes_several (transition (net_of l.net) j)) l.net.transitions l.word l.j × (l.net.transitions ≤ 64)
