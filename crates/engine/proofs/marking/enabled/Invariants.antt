-- The slots that are left are open where the transition is enabled. Assumes nothing.
use Prim.Native.Nat.{◌-◌}
use mathlib.Core.Path.{◌≡◌}
use Rattle.net.specs.Record.{net_of}
use Rattle.engine.specs.Limits.{limit_at}
use Rattle.engine.proofs.Limits.{open_from, enabled_at}
use Rattle.engine.proofs.marking.enabled.Given as goal

abbrev pub invariant-loop-a : goal.invariant-loop-a
invariant-loop-a l =
    open_from (limit_at (net_of l.net)) l.net.place.now l.counts l.a (l.end - l.a) ≡ enabled_at (net_of l.net) l.counts l.j
