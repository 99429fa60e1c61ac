-- Where a timer could not start the rules refuse too. Otherwise total, wait and draw are the rules', and so is what comes next; and what is kept is brought up to
-- date, since no delayed transition is enabled any more.
use Rattle.std.proofs.lemmas.Result.{err_from_is_err_and}
use mathlib.Core.Path.{◌≡◌, refl, ap, ◌∙◌}
use mathlib.Core.Bool.{not}
use lib.Dec.{eqb}
use Prim.Native.Nat.{◌≤◌}
use lib.ListN.{length}
use Rattle.net.specs.declared.Net.{Net as NetRecord}
use Rattle.net.specs.Readable.{readable}
use Rattle.net.specs.Record.{net_of}
use Rattle.rules.specs.Propensity.{total}
use Rattle.rules.specs.Step.{State}
use Rattle.engine.specs.Engine.{marking, Totalled}
use Rattle.jump.specs.Answers.{next_of}
use Rattle.kept.proofs.Keeping.{kept_quiet, marked_quiet, shut_open}
use Rattle.timers.proofs.Rings.{length_timers}
use Rattle.playing.specs.Keeping.{Carried}
use Rattle.playing.specs.Stepping.{state_of}
use Rattle.playing.proofs.Shut.{starts_shut}
use Rattle.playing.proofs.Steps.{Going, going, told, advance_full, advance_nothing, advance_race, advance_completion}
use Rattle.playing.proofs.step.advance.Goals as goal
use Rattle.playing.proofs.step.advance.Goals.{Start, After-next_event-what}

abbrev net : Start → NetRecord
net s = net_of s.args.net.now

-- the state before
abbrev from : Start → State
from s = state_of (net s) s.args.counts.now s.args.ats.now s.args.owners.now s.args.ring s.args.t s.args.rng.s

few : (s : Start) → length (from s).timers ≤ s.args.room
few s = rw length_timers s.requires.1.few

pub start_all-requires : goal.start_all-requires
start_all-requires c =
    let p = c.requires in
    (p.0, p.1, p.2.index, p.2.waits, shut_open _ _ _ _ _ _ p.3.kept)

pub returns-in_err-s : goal.returns-in_err-s
returns-in_err-s c =
    let s = (goal.at.returns-in_err-s c).Start in
    let p = err_from_is_err_and c.from_residual.result c.from_residual.ensures.1 in
    record { is = rw p.1 (advance_full c.args.room (net s) (from s) c.in_err-s.ensures.is); ready = rw (p.1, p.2) c.in_err-s.ensures.ready }

pub refresh-fresh-requires : goal.refresh-fresh-requires
refresh-fresh-requires c =
    let s = (goal.at.refresh-fresh-requires c).Start in
    let e = c.in_ok-s.ensures in
    let r = e.ready.0 in
    let t = c.requires.2 in
    let k = c.requires.3 in (
      r.tidy,
      r.limits,
      r.small,
      t.rated,
      t.ended,
      t.waits,
      t.heavies,
      kept_quiet _ _ _ _ _ _ _ _ e.quiet c.args.props.now k.kept,
      marked_quiet _ _ _ _ _ _ _ _ e.quiet c.args.kept.marks k.marked,
      starts_shut c.args.room (readable (net s)) (from s) (few s) e.is,
      k.summed,
      k.long_props,
      k.long_sums,
    )

pub waiting-w-requires : goal.waiting-w-requires
waiting-w-requires c = c.requires.4

carried : (c : After-next_event-what)
    → Carried (net_of c.args.net.now) (marking c.args.net.now.places c.start_all.new.counts)
    (record { moved = 0; crossed = 0; able = c.refresh-fresh.result.able; marks = c.refresh-fresh.result.marks; a0 = c.refresh-fresh.result.a0 })
    c.refresh-fresh.new.props c.refresh-fresh.new.sums
carried c =
    let e = c.refresh-fresh.ensures in
    record { kept = e.1; marked = e.2; summed = e.3; long_props = e.5; long_sums = e.6 }

totalled : (c : After-next_event-what) → Totalled (net_of c.args.net.now) c.start_all.new.counts c.refresh-fresh.new.props c.refresh-fresh.result.a0
totalled c =
    let e = c.refresh-fresh.ensures in
    record { each = e.0; all = e.3.all ∙ ap total e.0; long = e.5 }

goes_on : (c : After-next_event-what)
    → let a = c.args in
    Going a.room (net_of a.net.now) (state_of (net_of a.net.now) a.counts.now a.ats.now a.owners.now a.ring a.t a.rng.s) c.start_all.new.counts c.start_all.new.ats c.start_all.new.owners c.in_ok-s.s.timers
    c.refresh-fresh.new.props c.refresh-fresh.result.a0 (not (eqb c.refresh-fresh.result.marks 0)) c.waiting-w.result.rng.s (next_of c.next_event-what.result)
goes_on c =
    let a = c.args in
    let n = net_of a.net.now in
    let r = c.in_ok-s.s in
    going a.room n (state_of n a.counts.now a.ats.now a.owners.now a.ring a.t a.rng.s) c.start_all.new.counts c.start_all.new.ats c.start_all.new.owners r.timers c.in_ok-s.ensures.is
    (rw length_timers c.requires.1.few) c.refresh-fresh.new.props c.refresh-fresh.result.a0 _ (totalled c) c.refresh-fresh.ensures.4
    c.waiting-w.result.dt c.waiting-w.result.rng.s c.waiting-w.ensures.0 c.waiting-w.ensures.1 (next_of c.next_event-what.result)
    (c.next_event-what.ensures _ (told c.start_all.new.ats c.start_all.new.owners r.timers c.count.result c.first-x.result c.count.ensures c.first-x.ensures))

pub returns-in-Nothing : goal.returns-in-Nothing
returns-in-Nothing c =
    let e = (goal.at.returns-in-Nothing c).After-next_event-what in
    let r = c.in_ok-s.ensures.ready in
    record { is = advance_nothing (goes_on e) (ap next_of c.in-Nothing.is); ready = (r.0, r.1, λ z. (carried e, refl, refl)) }

pub returns-in-Race : goal.returns-in-Race
returns-in-Race c =
    let e = (goal.at.returns-in-Race c).After-next_event-what in
    let r = c.in_ok-s.ensures.ready in
    record { is = advance_race (goes_on e) c.in-Race.wait (ap next_of c.in-Race.is); ready = (r.0, r.1, λ z. (carried e, refl, refl)) }

pub returns-in-Completion : goal.returns-in-Completion
returns-in-Completion c =
    let e = (goal.at.returns-in-Completion c).After-next_event-what in
    let r = c.in_ok-s.ensures.ready in
    record { is = advance_completion (goes_on e) c.in-Completion.at (ap next_of c.in-Completion.is); ready = (r.0, r.1, λ z. (carried e, refl, refl)) }
