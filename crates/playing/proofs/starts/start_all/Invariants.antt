-- What has started stands in front of the passes that are left, and every delayed transition that may be enabled is asked. Where a pass starts none, the passes end;
-- with as many passes as there is room for timers and one, the last starts none.
use mathlib.Core.Path.{◌≡◌}
use mathlib.Core.Bool.{true}
use Prim.Native.Nat.{ℕ, suc, ◌-◌}
use Rattle.words.specs.Bits.{bit}
use Rattle.net.specs.Readable.{readable}
use Rattle.net.specs.Record.{net_of}
use Rattle.rules.specs.Step as Rule
use Rattle.engine.specs.Engine.{marking}
use Rattle.engine.specs.Guards.{Quiet}
use Rattle.timers.specs.Turning.{timers_of}
use Rattle.playing.specs.Keeping.{ShutBut}
use Rattle.playing.specs.Stepping.{Ready, Roomy}
use Rattle.playing.proofs.Passes.{SoFar}
use Rattle.playing.proofs.starts.start_all.Given as goal

abbrev pub invariant-loop-i : goal.invariant-loop-i
invariant-loop-i l =
    let n = net_of l.net in
    let m₀ = marking n.places l.initial.counts in
    let m = marking n.places l.counts in
    SoFar (Rule.passes (suc l.room) l.room (readable n) l.t m₀ (timers_of l.initial.ats l.initial.owners l.initial.k))
    (Rule.passes (suc l.room - l._i) l.room (readable n) l.t m (timers_of l.ats l.owners l.k)) l.any
    × Ready n l.tables.limit l.counts l.ats l.owners l.k
    × Roomy l.room l.k
    × Quiet (readable n) m₀ m l.moved l.crossed
    × ((j : ℕ) → bit l.asked j ≡ true → bit l.tables.timed j ≡ true)
    × ShutBut l.asked (readable n) m
