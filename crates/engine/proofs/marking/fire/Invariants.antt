-- What is left to take and to put comes to the whole (proofs/Firing), and the words hold what it may have changed (proofs/Touching). Assumes nothing.
use Rattle.net.specs.Readable.{slots_of}
use Rattle.net.specs.Record.{net_of}
use Rattle.engine.specs.Engine.{marking}
use Rattle.engine.specs.Guards.{moves_on, Told}
use Rattle.engine.proofs.Firing.{firing_of, Firing}
use Rattle.engine.proofs.marking.fire.Given as goal

abbrev pub invariant-loop-a : goal.invariant-loop-a
invariant-loop-a l =
    let n = net_of l.net in
    let before = marking n.places l.initial.counts in
    Firing n.places n.kind n.place n.weight l.end before (firing_of before (slots_of n l.j)) l.counts l.less l.more l.a
    × Told moves_on n l.j l.guards l.initial.counts l.counts l.moved l.crossed
