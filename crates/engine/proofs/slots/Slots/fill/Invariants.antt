-- The first j transitions are done (Tidying, Done); the bounds of a used slot come from the net having no fault. Assumes nothing.
use Prim.Native.Nat.{◌≤◌}
use Rattle.net.specs.Record.{net_of}
use Rattle.engine.proofs.Tidying.{Done}
use Rattle.engine.proofs.slots.Slots.fill.Given as goal

abbrev pub invariant-loop-j : goal.invariant-loop-j
invariant-loop-j l = Done (net_of l.net) l.self.arcs l.self.kind l.self.place l.self.weight l.j × (l.net.transitions ≤ 64)
