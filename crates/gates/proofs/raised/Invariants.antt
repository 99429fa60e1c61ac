-- A transition from number j on raises the place just where one of all does. Assumes nothing.
use Rattle.std.proofs.Common.{◌≡◌, ◌-◌}
use Rattle.net.specs.Tests.{any}
use Rattle.net.specs.Record.{net_of}
use Rattle.net.specs.Readable.{transitions_from}
use Rattle.gates.specs.Gated.{raises}
use Rattle.gates.proofs.raised.Given as goal

abbrev pub invariant-loop-j : goal.invariant-loop-j
invariant-loop-j l =
    let net = net_of l.net in
    any (raises l.p) (transitions_from net l.j (net.transitions - l.j)) ≡ any (raises l.p) (transitions_from net 0 net.transitions)
