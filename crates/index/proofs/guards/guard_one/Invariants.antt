-- One slot more (Guarding). Assumes nothing.
use Prim.Native.Nat.{◌≤◌}
use Rattle.net.specs.Record.{net_of}
use Rattle.index.specs.Guarding.{Guarding}
use Rattle.index.proofs.guards.guard_one.Given as goal

abbrev pub invariant-loop-a : goal.invariant-loop-a
invariant-loop-a l = Guarding (net_of l.net) l.guards l.a × (l.end ≤ 1024)
