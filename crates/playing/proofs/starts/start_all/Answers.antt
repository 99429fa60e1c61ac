-- What has started stands in front of the passes that are left; the passes end where one starts none. Where no delayed transition may be enabled, none starts.
use borrow.Author.Tests.{not-true, not-false}
use Prim.{tt}
use Rattle.std.proofs.lemmas.Result.{err_from_is_err_and}
use native.Mathlib.Omega.{arith}
use mathlib.Core.Path.{◌≡◌, refl, sym, ap, ◌∙◌}
use mathlib.Core.Bool.{true≢false}
use mathlib.Core.List.{[]}
use lib.Bits.{bit_and}
use Prim.Native.Nat.{ℕ, suc, ◌+◌, ◌-◌}
use Rattle.net.specs.Readable.{readable}
use Rattle.net.specs.Record.{net_of}
use Rattle.rules.specs.Step as Rule
use Rattle.engine.specs.Engine.{marking}
use Rattle.engine.proofs.Touching.{quiet_none, quiet_more}
use Rattle.timers.specs.Turning.{timers_of}
use Rattle.playing.specs.Keeping.{ShutBut}
use Rattle.playing.proofs.Passes.{so_none, so_ended, again_full, again_turned, again_ended, passes_next, passes_end}
use Rattle.playing.proofs.Shut.{shut_joined}
use Rattle.playing.proofs.Passing.{asked_only, asked_shut, joined_only, none_asked}
use Rattle.playing.proofs.starts.start_all.Goals as goal
use Rattle.playing.proofs.starts.start_all.Goals.{Start}

asked : (s : Start) → ShutBut (bit_and s.args.before s.args.tables.now.timed) (readable (net_of s.args.net.now)) (marking s.args.net.now.places s.args.counts.now)
asked s =
    let n = net_of s.args.net.now in
    asked_shut n s.args.tables.now.timed s.requires.3 (marking n.places s.args.counts.now) s.args.before s.requires.4

pub returns-then-asked-eq0 : goal.returns-then-asked-eq0
returns-then-asked-eq0 c =
    let s = c.args in
    let n = net_of s.net.now in
    let m = marking n.places s.counts.now in
    record {
      is = record {
        who = [];
        is = none_asked n m _ c.if-asked-eq0.true (asked (goal.at.returns-then-asked-eq0 c).Start) s.room s.t (timers_of s.ats.now s.owners.now s.ring) s.room;
        none = refl;
      };
      ready = (c.requires.0, c.requires.1);
      quiet = quiet_none (readable n) m;
    }

pub loop-i-init : goal.loop-i-init
loop-i-init c =
    let s = c.args in
    let n = net_of s.net.now in
    let m = marking n.places s.counts.now in
    let all : suc s.room - 0 ≡ suc s.room = omega arith in (
      so_none _ _ (ap (λ (k : ℕ). Rule.passes k s.room (readable n) s.t m (timers_of s.ats.now s.owners.now s.ring)) all),
      c.requires.0,
      c.requires.1,
      quiet_none (readable n) m,
      asked_only s.before s.tables.now.timed,
      asked (goal.at.loop-i-init c).Start,
    )

pub pass-requires : goal.pass-requires
pass-requires c = let l = c.loop-i in (l.invariant.1, l.invariant.2, c.requires.2, c.requires.3, l.invariant.4, l.invariant.5)

pub returns-in_err-s : goal.returns-in_err-s
returns-in_err-s c =
    let l = c.loop-i in
    let s = c.args in
    let n = net_of s.net.now in
    let e = c.in_err-s.ensures in
    let p = err_from_is_err_and c.from_residual.result c.from_residual.ensures.1 in
    record {
      is = rw p.1
          (again_full l.invariant.0 e.is (Rule.passes (suc s.room - (l._i + 1)) s.room (readable n) s.t)
          (passes_next s.room (readable n) s.t (marking n.places l.counts) (timers_of l.ats l.owners l.k) (suc s.room) l._i (omega arith)));
      ready = rw (p.1, p.2) e.ready;
      quiet = rw p.1 tt;
    }

pub returns-then-not-s : goal.returns-then-not-s
returns-then-not-s c =
    let l = c.loop-i in
    let s = c.args in
    let n = net_of s.net.now in
    let e = c.in_ok-s.ensures in
    let r = c.in_ok-s.s in
    record {
      is = again_ended l.invariant.0 e.is (Rule.passes (suc s.room - (l._i + 1)) s.room (readable n) s.t)
          (passes_next s.room (readable n) s.t (marking n.places l.counts) (timers_of l.ats l.owners l.k) (suc s.room) l._i (omega arith))
          (not-true _ c.if-not-s.true);
      ready = e.ready;
      quiet = quiet_more (readable n) _ _ _ l.moved l.crossed r.moved r.crossed l.invariant.3 e.quiet;
    }

pub loop-i-preserved : goal.loop-i-preserved
loop-i-preserved c =
    let l = c.loop-i in
    let s = c.args in
    let n = net_of s.net.now in
    let e = c.in_ok-s.ensures in
    let r = c.in_ok-s.s in (
      again_turned l.invariant.0 e.is (Rule.passes (suc s.room - (l._i + 1)) s.room (readable n) s.t)
          (passes_next s.room (readable n) s.t (marking n.places l.counts) (timers_of l.ats l.owners l.k) (suc s.room) l._i (omega arith))
          (not-false _ c.if-not-s.false),
      e.ready.0,
      e.ready.1,
      quiet_more (readable n) _ _ _ l.moved l.crossed r.moved r.crossed l.invariant.3 e.quiet,
      joined_only s.tables.now.timed r.crossed l.asked l.invariant.4,
      shut_joined n r.crossed s.tables.now.timed l.asked c.requires.3 l.invariant.5 e.quiet,
    )

pub returns : goal.returns
returns c =
    let l = c.loop-i in
    let s = c.args in
    let n = net_of s.net.now in
    record {
      is = so_ended l.invariant.0 [] _ _
          (passes_end s.room (readable n) s.t (marking n.places l.counts) (timers_of l.ats l.owners l.k) (suc s.room) l._i (omega arith)) refl;
      ready = (l.invariant.1, l.invariant.2);
      quiet = l.invariant.3;
    }
