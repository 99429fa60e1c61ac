-- What has started stands in front of the part of the pass from a transition on; a turn goes on to the next one that may start, and adds what it starts.
use Prim.{tt}
use Rattle.std.proofs.lemmas.Result.{err_from_is_err_and}
use native.Mathlib.Omega.{arith}
use mathlib.Core.Path.{◌≡◌, refl, sym, ap, ◌∙◌}
use mathlib.Core.Bool.{◌&&◌, true≢false}
use mathlib.Core.List.{[]}
use Prim.Native.Nat.{◌+◌, ◌≤◌, ◌<◌}
use lib.Count.{count_trailing_zeros}
use lib.Dec.{leb-zero}
use Rattle.words.specs.Bits.{bit}
use Rattle.net.specs.Readable.{readable}
use Rattle.net.specs.Record.{net_of}
use Rattle.rules.specs.Step as Rule
use Rattle.engine.specs.Engine.{marking}
use Rattle.engine.proofs.Touching.{quiet_none, quiet_more}
use Rattle.timers.specs.Turning.{timers_of}
use Rattle.playing.proofs.Passes.{SoFar, so_none, so_ended, turn_full, turned, pass_from, from_first, from_next}
use Rattle.playing.proofs.Passing.{next_small, next_inside, next_from, skips, ends, goes_on, so_skip}
use Rattle.playing.proofs.starts.pass.Goals as goal
use Rattle.playing.proofs.starts.pass.Goals.{In-loop-ahead}

pub loop-ahead-init : goal.loop-ahead-init
loop-ahead-init c =
    let s = c.args in
    let n = net_of s.net.now in
    let m = marking n.places s.counts.now in (
      omega arith,
      so_none _ _ (from_first s.room n s.t m (timers_of s.ats.now s.owners.now s.ring)),
      c.requires.0,
      c.requires.1,
      quiet_none (readable n) m,
      record { shut = c.requires.5; only = c.requires.4; says = λ j. sym (ap (λ b. b && bit s.asked j) (leb-zero j)); small = c.ranges.asked.fits },
    )

-- the next that may start is a transition of the net, none before the one that the pass has come to
small : (c : In-loop-ahead) → count_trailing_zeros 64 c.loop-ahead.ahead < 64
small c =
    let l = c.loop-ahead in
    let n = net_of c.args.net.now in
    next_small n c.args.tables.now.timed c.requires.3 (marking n.places l.counts) l.tried l.from l.ahead l.invariant.5 c.loop-ahead-test.true

inside : (c : In-loop-ahead) → count_trailing_zeros 64 c.loop-ahead.ahead < c.args.net.now.transitions
inside c =
    let l = c.loop-ahead in
    let n = net_of c.args.net.now in
    next_inside n c.args.tables.now.timed c.requires.3 (marking n.places l.counts) l.tried l.from l.ahead l.invariant.5 c.loop-ahead-test.true

behind : (c : In-loop-ahead) → c.loop-ahead.from ≤ count_trailing_zeros 64 c.loop-ahead.ahead
behind c =
    let l = c.loop-ahead in
    let n = net_of c.args.net.now in
    next_from n c.args.tables.now.timed c.requires.3 (marking n.places l.counts) l.tried l.from l.ahead l.invariant.5 c.loop-ahead-test.true

-- what has started stands in front of the pass from there on
so_far : (c : In-loop-ahead) → let n = net_of c.args.net.now in
    let l = c.loop-ahead in
    SoFar (Rule.pass c.args.room (readable n) c.args.t 0 (readable n).transitions (marking n.places c.args.counts.now) (timers_of c.args.ats.now c.args.owners.now c.args.ring))
    (pass_from c.args.room n c.args.t (count_trailing_zeros 64 l.ahead) (marking n.places l.counts) (timers_of l.ats l.owners l.k)) l.any
so_far c =
    let l = c.loop-ahead in
    let n = net_of c.args.net.now in
    so_skip l.invariant.1
    (skips n c.args.tables.now.timed c.requires.3 (marking n.places l.counts) l.tried l.from l.ahead l.invariant.5 c.loop-ahead-test.true c.args.room c.args.t
    (timers_of l.ats l.owners l.k))

pub overflow_cast-j : goal.overflow_cast-j
overflow_cast-j c = omega (arith, small (goal.at.overflow_cast-j c).In-loop-ahead)

pub try_start-requires : goal.try_start-requires
try_start-requires c = let l = c.loop-ahead in (inside (goal.at.try_start-requires c).In-loop-ahead, l.invariant.2, l.invariant.3, c.requires.2)

pub returns-in_err-s : goal.returns-in_err-s
returns-in_err-s c =
    let i = (goal.at.returns-in_err-s c).In-loop-ahead in
    let l = c.loop-ahead in
    let n = net_of c.args.net.now in
    let j = count_trailing_zeros 64 l.ahead in
    let e = c.in_err-s.ensures in
    let p = err_from_is_err_and c.from_residual.result c.from_residual.ensures.1 in
    record {
      is = rw p.1
          (turn_full (so_far i) e.is (pass_from c.args.room n c.args.t (j + 1))
          (from_next c.args.room n c.args.t (marking n.places l.counts) (timers_of l.ats l.owners l.k) j (inside i)));
      ready = rw (p.1, p.2) e.ready;
      quiet = rw p.1 tt;
    }

pub overflow_add-from : goal.overflow_add-from
overflow_add-from c = omega (arith, small (goal.at.overflow_add-from c).In-loop-ahead)

pub from_bit-ahead-requires : goal.from_bit-ahead-requires
from_bit-ahead-requires c = omega (arith, small (goal.at.from_bit-ahead-requires c).In-loop-ahead)

pub loop-ahead-smaller : goal.loop-ahead-smaller
loop-ahead-smaller c =
    let i = (goal.at.loop-ahead-smaller c).In-loop-ahead in
    omega (arith, behind i, inside i)

pub loop-ahead-preserved : goal.loop-ahead-preserved
loop-ahead-preserved c =
    let i = (goal.at.loop-ahead-preserved c).In-loop-ahead in
    let l = c.loop-ahead in
    let n = net_of c.args.net.now in
    let m = marking n.places l.counts in
    let j = count_trailing_zeros 64 l.ahead in
    let e = c.in_ok-s.ensures in
    let r = c.in_ok-s.s in
    let q = e.quiet in (
      omega (arith, inside i),
      turned (so_far i) e.is (pass_from c.args.room n c.args.t (j + 1)) (from_next c.args.room n c.args.t m (timers_of l.ats l.owners l.k) j (inside i)),
      e.ready.0,
      e.ready.1,
      quiet_more (readable n) _ _ _ l.moved l.crossed r.moved r.crossed l.invariant.4 q,
      goes_on n c.args.tables.now.timed c.requires.3 m l.tried l.from l.ahead l.invariant.5 r.crossed q _ _ c.from_bit-ahead.ensures.0 c.from_bit-ahead.ensures.1,
    )

pub returns : goal.returns
returns c =
    let l = c.loop-ahead in
    let n = net_of c.args.net.now in
    record {
      is = so_ended l.invariant.1 [] _ _
          (ends n c.args.tables.now.timed c.requires.3 (marking n.places l.counts) l.tried l.from l.ahead l.invariant.5 c.loop-ahead-test.false c.args.room c.args.t
          (timers_of l.ats l.owners l.k))
          refl;
      ready = (l.invariant.2, l.invariant.3);
      quiet = l.invariant.4;
    }
