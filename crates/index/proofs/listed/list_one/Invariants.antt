-- What the words say with what the slots from a on list is the whole (Listing). Assumes nothing.
use Rattle.net.specs.Record.{net_of}
use Rattle.index.proofs.Listing.{Listing}
use Rattle.index.proofs.listed.list_one.Given as goal

abbrev pub invariant-loop-a : goal.invariant-loop-a
invariant-loop-a l =
    let n = net_of l.net in
    Listing n.capacity n.kind n.place n.weight l.from l.end l.j l.initial.words l.words l.a
