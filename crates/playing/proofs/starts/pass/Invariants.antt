-- What has started stands in front of the part of the pass from a transition on; a turn goes on to the next one that may start, and adds what it starts.
use Prim.Native.Nat.{◌-◌, ◌≤◌}
use Rattle.net.specs.Readable.{readable}
use Rattle.net.specs.Record.{net_of}
use Rattle.rules.specs.Step as Rule
use Rattle.engine.specs.Engine.{marking}
use Rattle.engine.specs.Guards.{Quiet}
use Rattle.timers.specs.Turning.{timers_of}
use Rattle.playing.specs.Stepping.{Ready, Roomy}
use Rattle.playing.proofs.Passes.{SoFar, pass_from}
use Rattle.playing.proofs.Passing.{Ahead}
use Rattle.playing.proofs.starts.pass.Given as goal

abbrev pub invariant-loop-ahead : goal.invariant-loop-ahead
invariant-loop-ahead l =
    let n = net_of l.net in
    let m₀ = marking n.places l.initial.counts in
    let m = marking n.places l.counts in
    (l.from ≤ n.transitions)
    × SoFar (Rule.pass l.room (readable n) l.t 0 (readable n).transitions m₀ (timers_of l.initial.ats l.initial.owners l.initial.k))
    (pass_from l.room n l.t l.from m (timers_of l.ats l.owners l.k)) l.any
    × Ready n l.tables.limit l.counts l.ats l.owners l.k
    × Roomy l.room l.k
    × Quiet (readable n) m₀ m l.moved l.crossed
    × Ahead n l.tables.timed m l.tried l.from l.ahead

abbrev pub decreases-loop-ahead : goal.decreases-loop-ahead
decreases-loop-ahead l = l.net.transitions - l.from
