-- The mask so far, and that of the places from p on above it, are the whole. Assumes nothing.
use Rattle.std.proofs.Common.{◌≡◌, ◌+◌, ◌-◌, ◌*◌, ◌^◌}
use Rattle.net.specs.Record.{net_of}
use Rattle.gates.specs.Slots.{mask_from}
use Rattle.gates.proofs.bounded_mask.Given as goal

abbrev pub invariant-loop-p : goal.invariant-loop-p
invariant-loop-p l =
    let net = net_of l.net in
    l.mask + 2 ^ l.p * mask_from net l.p (net.places - l.p) ≡ mask_from net 0 net.places
