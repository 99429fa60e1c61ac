-- What one transition lists, added to what those before it list (Filling). Assumes nothing.
use Prim.Native.Nat.{◌≤◌}
use Rattle.net.specs.Record.{net_of}
use Rattle.index.proofs.Filling.{Filled}
use Rattle.index.proofs.listed.listed_words.Given as goal

abbrev pub invariant-loop-j : goal.invariant-loop-j
invariant-loop-j l = Filled (net_of l.net) l.words l.j × (l.net.transitions ≤ 64)
