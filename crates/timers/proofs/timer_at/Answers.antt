-- Timer i of the list is the one of its slot, and past the end there is none.
use native.Mathlib.Omega.{arith}
use mathlib.Core.Path.{sym, ap, ◌∙◌}
use Rattle.timers.specs.Turning.{held, running}
use Rattle.timers.proofs.Places.{from_at, from_past}
use Rattle.timers.proofs.timer_at.Goals as goal

pub returns-then-count-i : goal.returns-then-count-i
returns-then-count-i c =
    c.idle.ensures ∙ sym (from_past (held c.args.ats.now c.args.owners.now) c.args.ring.start (running c.args.ring) c.args.i (omega arith))

pub returns : goal.returns
returns c =
    let f = held c.args.ats.now c.args.owners.now in
    c.read.ensures ∙ ap f c.slot.ensures ∙ sym (from_at f c.args.ring.start (running c.args.ring) c.args.i (omega arith))
