-- A transition from number j on would start just where one of all would, since none before j would. Assumes nothing.
use mathlib.Core.Path.{◌≡◌}
use Prim.Native.Nat.{◌-◌}
use Rattle.net.specs.Tests.{any}
use Rattle.net.specs.Record.{net_of}
use Rattle.net.specs.Readable.{readable, transitions_from}
use Rattle.rules.proofs.Happening.{ready}
use Rattle.engine.specs.Engine.{marking}
use Rattle.playing.proofs.peak.some_ready.Given as goal

abbrev pub invariant-loop-j : goal.invariant-loop-j
invariant-loop-j l =
    let n = net_of l.net in
    let on = ready (readable n) (marking n.places l.counts) in
    any on (transitions_from n l.j (n.transitions - l.j)) ≡ any on (transitions_from n 0 n.transitions)
