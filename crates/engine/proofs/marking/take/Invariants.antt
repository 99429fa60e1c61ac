-- The taking that is left comes to the whole (proofs/Moving), and the words hold what it may have changed (proofs/Touching). Assumes nothing.
use Rattle.net.specs.Readable.{slots_of}
use Rattle.net.specs.Record.{net_of}
use Rattle.engine.specs.Engine.{marking}
use Rattle.engine.specs.Guards.{takes_on, Told}
use Rattle.engine.proofs.Marks.{taking_of}
use Rattle.engine.proofs.Moving.{Taking}
use Rattle.engine.proofs.marking.take.Given as goal

abbrev pub invariant-loop-a : goal.invariant-loop-a
invariant-loop-a l =
    let n = net_of l.net in
    let before = marking n.places l.initial.counts in
    Taking n.places n.kind n.place n.weight l.end before (taking_of before (slots_of n l.j)) l.counts l.less l.a
    × Told takes_on n l.j l.guards l.initial.counts l.counts l.moved l.crossed
