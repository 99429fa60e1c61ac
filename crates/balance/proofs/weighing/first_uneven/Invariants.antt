-- The lowest unbalanced of the transitions from number j on is that of all, since each before j is balanced. Assumes nothing.
use Rattle.std.proofs.Common.{◌≡◌, ◌-◌}
use Rattle.net.specs.Record.{net_of}
use Rattle.net.specs.Readable.{transitions_from}
use Rattle.rules.specs.Balance.{first_uneven}
use Rattle.balance.proofs.weighing.first_uneven.Given as goal

abbrev pub invariant-loop-j : goal.invariant-loop-j
invariant-loop-j l =
    let net = net_of l.net in
    first_uneven l.weights l.j (transitions_from net l.j (l.net.transitions - l.j)) ≡ first_uneven l.weights 0 (transitions_from net 0 l.net.transitions)
