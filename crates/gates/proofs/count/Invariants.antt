-- The count so far with that of the transitions from j on is the whole. Assumes nothing.
use Rattle.std.proofs.Common.{◌≡◌, ◌+◌, ◌-◌}
use Rattle.net.specs.Record.{net_of}
use Rattle.gates.specs.Slots.{sort_of, count_from}
use Rattle.gates.proofs.count.Given as goal

abbrev pub invariant-loop-j : goal.invariant-loop-j
invariant-loop-j l =
    let net = net_of l.net in
    l.n + count_from (sort_of l.gate) net l.j (net.transitions - l.j) ≡ count_from (sort_of l.gate) net 0 net.transitions
