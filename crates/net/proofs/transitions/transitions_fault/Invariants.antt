-- The invariant: the first fault of the transitions that are left is that of all. Assumes nothing.
use Prim.Native.Nat.{◌-◌}
use mathlib.Core.Path.{◌≡◌}
use Rattle.net.specs.Readable.{moves_fault}
use Rattle.net.specs.Record.{net_of}
use Rattle.net.proofs.transitions.transitions_fault.Given as goal

abbrev pub invariant-loop-j : goal.invariant-loop-j
invariant-loop-j l = moves_fault (net_of l.net) l.j (l.net.transitions - l.j) ≡ moves_fault (net_of l.net) 0 l.net.transitions
