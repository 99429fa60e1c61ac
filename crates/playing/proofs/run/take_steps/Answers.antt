-- Each arm of a step carries the run on or ends it (proofs/Playing).
use native.Mathlib.Omega.{arith}
use mathlib.Core.Path.{◌≡◌, refl, sym, ◌∙◌}
use mathlib.Core.Bool.{Bool, true, false, true≢false, false≢true}
use Prim.Native.Nat.{ℕ, suc, ◌+◌, ◌-◌, ◌≤◌, ◌<◌}
use lib.ListN.{length}
use Rattle.net.specs.Net.{pick}
use Rattle.net.specs.Record.{net_of}
use Rattle.engine.specs.Engine.{Counts}
use Rattle.playing.specs.declared.PathEnd.TheVariants.{Quiet, Reached, Refused}
use Rattle.playing.specs.declared.run.Walked.{Walked}
use Rattle.playing.specs.Cells.{Stay}
use Rattle.playing.specs.Playing.{out_of}
use Rattle.playing.specs.Stepping.{state_of}
use Rattle.playing.proofs.Playing.{one_at_most, so_far_none, walked_at, walked_same, at_last, at_limit, goes_on, past_last, nothing_left, turned_down}
use Rattle.playing.proofs.run.take_steps.Goals as goal
use Rattle.playing.proofs.run.take_steps.Goals.{After-one_step-r}

one_less : (g : Bool) (a b : ℕ) → g ≡ true → a < b → pick g (suc a) 0 < pick g (suc b) 0
one_less true a b e h = omega arith
one_less false a b e h = absurd (false≢true e)

the_last : (g : Bool) (a : ℕ) → g ≡ true → 0 < pick g (suc a) 0
the_last true a e = omega arith
the_last false a e = absurd (false≢true e)

pub loop-going-init : goal.loop-going-init
loop-going-init c =
    let s = c.args in
    let r = c.requires in (
      r.0.small,
      refl,
      λ i h. refl,
      λ _. (
        omega arith,
        refl,
        r.0,
        r.1,
        r.3,
        so_far_none (out_of s.halts) s.room _ s.last s.instants.now s.net.now.places s.steps s.s.next s.s.tokens s.s.peak _ s.table.now r.4 r.8 r.7,
        r.9,
      ),
      λ f. absurd (true≢false f),
    )

pub one_step-r-requires : goal.one_step-r-requires
one_step-r-requires c =
    let i = c.loop-going.invariant in
    let g = i.3 c.loop-going-test.true in
    (g.2, g.3, c.requires.2, g.4, g.5.within, c.requires.5, omega (arith, c.requires.6, i.1), g.5.now, g.6)

pub overflow_add-done : goal.overflow_add-done
overflow_add-done c = omega (arith, c.ranges.steps, c.if-done-steps.true)

pub one_more-rounded-requires : goal.one_more-rounded-requires
one_more-rounded-requires c = omega (arith, (c.loop-going.invariant.3 c.loop-going-test.true).0, c.if-done-steps.true, c.ranges.steps)

-- one step is taken
one_taken : (o : After-one_step-r) → o.args.steps - o.loop-going.done ≡ suc (o.args.steps - (o.loop-going.done + 1))
one_taken o = omega (arith, o.if-done-steps.true)

-- what a step leaves of the table and the counts
left : (o : After-one_step-r)
    → Counts o.one_step-r.new.counts × (length o.one_step-r.new.table ≡ length o.args.table.now)
    × Stay o.args.net.now.places (length o.args.instants.now) o.args.table.now o.one_step-r.new.table
left o =
    let i = o.loop-going.invariant in
    let e = o.one_step-r.ensures.ready in
    (e.0.small, e.3 ∙ i.1, λ a h. e.4 a h ∙ i.2 a h)

pub loop-going-smaller-in-GoesOn : goal.loop-going-smaller-in-GoesOn
loop-going-smaller-in-GoesOn c = one_less c.loop-going.going _ _ c.loop-going-test.true (omega (arith, c.if-done-steps.true))

pub loop-going-preserved-in-GoesOn : goal.loop-going-preserved-in-GoesOn
loop-going-preserved-in-GoesOn c =
    let o = (goal.at.loop-going-preserved-in-GoesOn c).After-one_step-r in
    let e = c.one_step-r.ensures in
    let g = c.loop-going.invariant.3 c.loop-going-test.true in
    let l = left o in (
      l.0,
      l.1,
      l.2,
      λ _. (
        omega (arith, g.0, c.one_more-rounded.ensures, one_at_most c.one_step-r.result.rounded),
        g.1,
        e.ready.0,
        e.ready.1,
        (e.ready.2 c.in-GoesOn.is).0,
        goes_on g.2.tidy.once g.5 (c.args.steps - (c.loop-going.done + 1)) (one_taken o) c.if-clock-last.true
            c.one_more-rounded.result c.one_more-rounded.ensures (rw c.in-GoesOn.is at e.is),
        (e.ready.2 c.in-GoesOn.is).1,
      ),
      λ f. absurd (true≢false (sym c.loop-going-test.true ∙ f)),
    )

pub loop-going-smaller-in-Quiet : goal.loop-going-smaller-in-Quiet
loop-going-smaller-in-Quiet c = the_last c.loop-going.going _ c.loop-going-test.true

pub loop-going-preserved-in-Quiet : goal.loop-going-preserved-in-Quiet
loop-going-preserved-in-Quiet c =
    let o = (goal.at.loop-going-preserved-in-Quiet c).After-one_step-r in
    let g = c.loop-going.invariant.3 c.loop-going-test.true in
    let l = left o in (
      l.0,
      l.1,
      l.2,
      λ t. absurd (false≢true t),
      λ _. nothing_left g.2.tidy.once g.5 (c.args.steps - (c.loop-going.done + 1)) (one_taken o) c.if-clock-last.true
          (walked_at Quiet (c.loop-going.done + 1) c.one_more-rounded.result c.one_step-r.result.now) refl c.one_more-rounded.ensures
          (rw c.in-Quiet.is at c.one_step-r.ensures.is),
    )

pub loop-going-smaller-in-Reached : goal.loop-going-smaller-in-Reached
loop-going-smaller-in-Reached c = the_last c.loop-going.going _ c.loop-going-test.true

pub loop-going-preserved-in-Reached : goal.loop-going-preserved-in-Reached
loop-going-preserved-in-Reached c =
    let o = (goal.at.loop-going-preserved-in-Reached c).After-one_step-r in
    let g = c.loop-going.invariant.3 c.loop-going-test.true in
    let l = left o in (
      l.0,
      l.1,
      l.2,
      λ t. absurd (false≢true t),
      λ _. rw g.1
          (past_last g.2.tidy.once g.5 (c.args.steps - (c.loop-going.done + 1)) (one_taken o) c.if-clock-last.true
          (walked_at Reached (c.loop-going.done + 1) c.one_more-rounded.result c.one_step-r.result.now) refl c.one_more-rounded.ensures
          (rw c.in-Reached.is at c.one_step-r.ensures.is)),
    )

pub loop-going-smaller-in-Refused : goal.loop-going-smaller-in-Refused
loop-going-smaller-in-Refused c = the_last c.loop-going.going _ c.loop-going-test.true

pub loop-going-preserved-in-Refused : goal.loop-going-preserved-in-Refused
loop-going-preserved-in-Refused c =
    let o = (goal.at.loop-going-preserved-in-Refused c).After-one_step-r in
    let g = c.loop-going.invariant.3 c.loop-going-test.true in
    let l = left o in (
      l.0,
      l.1,
      l.2,
      λ t. absurd (false≢true t),
      λ _. turned_down g.2.tidy.once g.5 (c.args.steps - (c.loop-going.done + 1)) (one_taken o) c.if-clock-last.true
          (walked_at (Refused c.in-Refused.c) (c.loop-going.done + 1) c.one_more-rounded.result c.one_step-r.result.now)
          c.in-Refused.c (rw c.in-Refused.is at c.one_step-r.ensures.is),
    )

pub loop-going-smaller-else-done-steps : goal.loop-going-smaller-else-done-steps
loop-going-smaller-else-done-steps c = the_last c.loop-going.going _ c.loop-going-test.true

pub loop-going-preserved-else-done-steps : goal.loop-going-preserved-else-done-steps
loop-going-preserved-else-done-steps c =
    let l = c.loop-going in
    let g = l.invariant.3 c.loop-going-test.true in (
      l.invariant.0,
      l.invariant.1,
      l.invariant.2,
      λ t. absurd (false≢true t),
      λ _. at_limit (walked_at c.out-end.result l.done l.rounded l.at) g.5 c.out-end.result c.out-end.ensures (omega (arith, c.if-done-steps.false)) c.if-clock-last.true,
    )

pub loop-going-smaller : goal.loop-going-smaller
loop-going-smaller c = the_last c.loop-going.going _ c.loop-going-test.true

pub loop-going-preserved : goal.loop-going-preserved
loop-going-preserved c =
    let l = c.loop-going in
    let g = l.invariant.3 c.loop-going-test.true in (
      l.invariant.0,
      l.invariant.1,
      l.invariant.2,
      λ t. absurd (false≢true t),
      λ _. rw g.1 (at_last (walked_at Reached l.done l.rounded l.at) g.5 c.if-clock-last.false),
    )

pub returns : goal.returns
returns c =
    let n = net_of c.args.net.now in
    let l = c.loop-going in
    let r = c.stopped.ensures in
    let e : walked_at l.end l.done l.rounded l.at ≡ c.stopped.result =
    λ i. record {
      end = sym r.0 i;
      steps = sym r.1 i;
      rounded = sym r.2 i;
      next = sym r.3 i;
      peak = sym r.4 i;
      clock = sym r.5 i;
      timers = sym r.6 i;
      rng = sym r.7 i;
    } in
    record {
      is = walked_same (λ (w : Walked). state_of n l.counts l.ats l.owners w.timers w.clock w.rng.s) e (l.invariant.4 c.loop-going-test.false);
      kept = (l.invariant.0, l.invariant.1, l.invariant.2);
    }
