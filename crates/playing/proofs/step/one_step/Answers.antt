-- The step up to its clock reading, what is shown there, and the event make a step of the rules, arm by arm (proofs/Steps).
use native.Mathlib.Omega.{arith}
use mathlib.Core.Path.{◌≡◌, refl, sym, ap, ◌∙◌}
use Prim.Native.Nat.{ℕ}
use lib.Ieee.{Float}
use Rattle.net.specs.declared.Net.{Net as NetRecord}
use Rattle.net.specs.Readable.{readable}
use Rattle.net.specs.Record.{net_of}
use Rattle.rules.specs.Step.{State, Answer, Event, Step, step}
use Rattle.jump.specs.Answers.{unit_wait}
use Rattle.playing.specs.Stepping as Stepping
use Rattle.playing.specs.Stepping.{state_of, event_of, ChangedBy}
use Rattle.playing.specs.declared.step.Due.TheVariants.{Event as Follows}
use Rattle.playing.specs.declared.step.Ending.{Ending}
use Rattle.playing.specs.declared.step.Ending.TheVariants.{GoesOn, Quiet, Reached, Refused}
use Rattle.playing.proofs.Carrying.{carried_on}
use Rattle.playing.proofs.Rooms.{fits_still}
use Rattle.playing.proofs.Steps.{Sets, if_nothing, if_event, step_reached, step_on, step_large, tokens_stay, drawn_after}
use Rattle.playing.proofs.step.one_step.Goals as goal
use Rattle.playing.proofs.step.one_step.Goals.{In-Ok}

-- ---- the step up to its clock reading

abbrev net : In-Ok → NetRecord
net d = net_of d.args.net.now

-- the state before, and at the clock reading
abbrev from : In-Ok → State
from d = state_of (net d) d.args.counts.now d.args.ats.now d.args.owners.now d.args.s.timers d.args.s.clock d.args.s.rng.s

abbrev reads : In-Ok → State
reads d =
    let l = d.advance.new in
    let r = d.in-Ok.d in
    state_of (net d) l.counts l.ats l.owners r.timers r.clock r.rng.s

abbrev rule : In-Ok → Answer Step
rule d = step d.args.room (readable (net d)) (from d)

abbrev event-of : In-Ok → Answer Event
event-of d = event_of (net d) (reads d) d.in-Ok.d.kept.a0 d.advance.new.props d.in-Ok.d.completes

follows : (d : In-Ok) → d.in-Ok.d.due ≡ Follows → Sets (rule d) d.in-Ok.d.rounded (reads d) (event-of d)
follows d e = if_event d.in-Ok.ensures.is e

-- another ending than that the run goes on
abbrev goes : Ending → ℕ
goes GoesOn = 1
goes Quiet = 0
goes Reached = 0
goes (Refused c) = 0

not_on : {P : Type 0} → ◌≡◌ {A = ℕ} 0 1 → P
not_on e = absurd (omega arith)

-- ---- the needs

pub advance-requires : goal.advance-requires
advance-requires c = let p = c.requires in (p.0, p.1, p.2, p.3, p.8)

pub show-next-requires : goal.show-next-requires
show-next-requires c =
    let r = c.in-Ok.ensures.ready.0 in
    let p = c.requires in
    (r.tidy.places, p.4, p.5, p.6, r.small)

pub returns-then-last-clock : goal.returns-then-last-clock
returns-then-last-clock c =
    let d = (goal.at.returns-then-last-clock c).In-Ok in
    let v = c.in-Ok.ensures.ready in
    let shown = c.show-next.ensures in
    record {
      is = step_reached {spec = rule d} {rounded = c.in-Ok.d.rounded} {u = reads d} {e = event-of d} (follows d c.in-Event.is) c.if-last-clock.true shown refl;
      ready = (v.0, v.1, λ e. not_on (ap goes e), shown.cells.long, shown.cells.further);
    }

pub happen-e-requires : goal.happen-e-requires
happen-e-requires c =
    let d = (goal.at.happen-e-requires c).In-Ok in
    let v = c.in-Ok.ensures.ready in
    let k = (v.2 c.in-Event.is).0 in
    (v.0, k.long_props, k.summed.each, c.requires.7 ∙ sym (tokens_stay c.args.room (net d) v.0.tidy (from d) (reads d) (follows d c.in-Event.is)), c.requires.2.index)

pub returns-in-Some : goal.returns-in-Some
returns-in-Some c =
    let d = (goal.at.returns-in-Some c).In-Ok in
    let r = c.in-Ok.d in
    let v = c.in-Ok.ensures.ready in
    let k = v.2 c.in-Event.is in
    let shown = c.show-next.ensures in
    let e = c.happen-e.ensures in
    let is = rw c.in-Some.is at e.is in
    let quiet = rw c.in-Some.is at e.quiet in
    let waits = c.unit_wait-unit.ensures
    ∙ ap unit_wait (c.after_event.ensures ∙ sym (drawn_after (net d) (reads d) r.kept.a0 c.advance.new.props r.completes _ _ _ is refl)) in
    record {
      is = step_on {spec = rule d} {rounded = r.rounded} {u = reads d} {e = event-of d} (follows d c.in-Event.is) c.if-last-clock.false shown c.max.ensures is refl;
      ready = (
        e.ready.0,
        fits_still v.1 e.ready.1,
        λ z. (carried_on (net d) _ _ _ _ _ _ _ k.0 k.1 k.2 quiet, waits),
        shown.cells.long,
        shown.cells.further,
      );
    }

pub returns-in-None : goal.returns-in-None
returns-in-None c =
    let d = (goal.at.returns-in-None c).In-Ok in
    let v = c.in-Ok.ensures.ready in
    let shown = c.show-next.ensures in
    let e = c.happen-e.ensures in
    record {
      is = step_large {spec = rule d} {rounded = c.in-Ok.d.rounded} {u = reads d} {e = event-of d} (follows d c.in-Event.is) c.if-last-clock.false
          (rw c.in-None.is at e.is) refl;
      ready = (e.ready.0, fits_still v.1 e.ready.1, λ z. not_on (ap goes z), shown.cells.long, shown.cells.further);
    }

pub returns-in-Err : goal.returns-in-Err
returns-in-Err c =
    let v = c.in-Err.ensures in
    record { is = Stepping.starting v.is; ready = (v.ready.0, v.ready.1, λ e. not_on (ap goes e), refl, λ a h. refl) }

pub returns-in-Nothing : goal.returns-in-Nothing
returns-in-Nothing c =
    let v = c.in-Ok.ensures.ready in
    let q = if_nothing c.in-Ok.ensures.is c.in-Nothing.is in
    record {
      is = Stepping.quiet q.0 q.1 (record { next = refl; table = refl }) refl;
      ready = (v.0, v.1, λ e. not_on (ap goes e), refl, λ a h. refl);
    }
