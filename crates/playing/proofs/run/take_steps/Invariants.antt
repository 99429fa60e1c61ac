-- While the loop goes on, the whole run is what has been shown and the run from here (proofs/Playing, SoFar); each arm of a step carries it on or ends it. Once it
-- stops, what it leaves is the answer. A turn is one step less, or the last.
use mathlib.Core.Path.{◌≡◌}
use mathlib.Core.Bool.{true, false}
use Prim.Native.Nat.{suc, ◌-◌, ◌≤◌}
use lib.ListN.{length, drop}
use Rattle.net.specs.Net.{pick}
use Rattle.net.specs.Readable.{readable}
use Rattle.net.specs.Record.{net_of}
use Rattle.rng.specs.State.{words}
use Rattle.rules.proofs.Play.{higher, play_within}
use Rattle.jump.specs.Answers.{unit_wait}
use Rattle.engine.specs.Engine.{Counts, marking}
use Rattle.playing.specs.declared.PathEnd.TheVariants.{Reached}
use Rattle.playing.specs.Cells.{Stay}
use Rattle.playing.specs.Keeping.{Carried}
use Rattle.playing.specs.Playing.{out_of}
use Rattle.playing.specs.Stepping.{Ready, Roomy, state_of}
use Rattle.playing.proofs.Playing.{SoFar, walked_at, WalkedTo}
use Rattle.playing.proofs.run.take_steps.Given as goal

abbrev pub invariant-loop-going : goal.invariant-loop-going
invariant-loop-going l =
    let n = net_of l.net in
    let b = l.initial in
    let state = state_of n l.counts l.ats l.owners l.at.timers l.at.clock l.at.rng.s in
    let whole = higher b.at.peak (play_within (out_of l.halts) l.room (readable n) l.last l.steps (drop b.at.next l.instants)
    (state_of n b.counts b.ats b.owners b.at.timers b.at.clock b.at.rng.s)) in
    Counts l.counts
    × (length l.table ≡ length b.table)
    × Stay n.places (length l.instants) b.table l.table
    × (l.going ≡ true
    → (l.rounded ≤ l.done)
    × (l.end ≡ Reached)
    × Ready n l.tables.limit l.counts l.ats l.owners l.at.timers
    × Roomy l.room l.at.timers
    × Carried n (marking n.places l.counts) l.at.kept l.props l.sums
    × SoFar (out_of l.halts) l.room (readable n) l.last l.instants n.places whole b.at.next b.table (l.steps - l.done) l.done l.rounded l.at.next l.at.tokens l.at.peak state l.table
    × (l.at.unit ≡ unit_wait (words l.at.rng.s)))
    × (l.going ≡ false → WalkedTo l.instants n.places whole b.at.next b.table state l.table (walked_at l.end l.done l.rounded l.at) l.end)

abbrev pub decreases-loop-going : goal.decreases-loop-going
decreases-loop-going l = pick l.going (suc (l.steps - l.done)) 0
