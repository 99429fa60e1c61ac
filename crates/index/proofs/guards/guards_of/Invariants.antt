-- One transition more (Guarding). Assumes nothing.
use Prim.Native.Nat.{◌*◌}
use Rattle.net.specs.Record.{net_of}
use Rattle.index.specs.Guarding.{Guarding}
use Rattle.index.proofs.guards.guards_of.Given as goal

abbrev pub invariant-loop-j : goal.invariant-loop-j
invariant-loop-j l = Guarding (net_of l.net) l.guards (16 * l.j)
