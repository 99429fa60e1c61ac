-- The path begins as the rules' does (`begun`): the first instants show the initial counts, and no timer runs. From there it is played on (Resumed).
-- Assumes nothing.
use borrow.Enum.Refused.{opened}
use Rattle.std.proofs.Common.{◌≡◌, ℕ, ◌+◌, ◌*◌, ◌<◌, ◌≤◌, true, not, List, [], length, replicate, refl, sym, ap, subst, ◌∙◌, arith}
use Prim.{tt}
use lib.Ieee.{Float, of_bits, eq, lt, le}
use Rattle.net.specs.Net.{zero64}
use Rattle.net.specs.Tests.{any}
use Rattle.net.specs.Record.{net_of}
use Rattle.net.specs.Readable.{readable}
use Rattle.net.proofs.Sound.{sound}
use Rattle.rng.specs.State.{words}
use Rattle.rules.specs.Timers.{Timer}
use Rattle.rules.specs.Moments.{start, sum_of, tokens, taken_by_timers}
use Rattle.rules.specs.Step.{state}
use Rattle.rules.specs.Change.{time_fits}
use Rattle.rules.proofs.Play.{rises}
use Rattle.engine.specs.Engine.{Counts}
use Rattle.engine.proofs.Lists.{initial_is}
use Rattle.timers.specs.declared.Ring.{Ring}
use Rattle.timers.specs.InOrder.{in_order}
use Rattle.timers.specs.Turning.{timers_of}
use Rattle.ssa.specs.Path.{end_of}
use Rattle.ssa.specs.Halted.{unbegun}
use Rattle.playing.specs.Stepping.{Light, Resumes}
use Rattle.ssa.proofs.Accepted.{fitting}
use Rattle.ssa.proofs.Answered.{not_refused}
use Rattle.playing.proofs.Playing.{shown_within}
use Rattle.ssa.proofs.Resumed.{refused_first, played_first}
use Rattle.ssa.proofs.until.accepted_until.Goals as goal

zero_time : time_fits zero64 ≡ true
unfolding le lt eq of_bits
zero_time = refl

-- where it begins
begins : (counts : List ℕ) (r : Ring) (clock : Float) → Counts counts → timers_of (replicate 256 zero64) (replicate 512 0) r ≡ [] → clock ≡ zero64
    → Resumes counts (replicate 256 zero64) (replicate 512 0) r clock
begins counts r clock small none e =
    record {
      small = small;
      light = subst Light (sym none) tt;
      sound = λ _. ap in_order none;
      clock_fits = ap time_fits e ∙ zero_time;
      times_fit = ap (any (λ (x : Timer). not (time_fits x.at))) none;
    }

pub first_counts-counts-requires : goal.first_counts-counts-requires
first_counts-counts-requires c = let n = sound (net_of c.args.net.now) c.requires.0 in (n.places, n.initial)

pub begin-s-requires : goal.begin-s-requires
begin-s-requires c =
    ((sound (net_of c.args.net.now) c.requires.0).places, (fitting c.args.instants.now c.requires.1).few, c.requires.3, c.first_counts-counts.ensures.1)

pub resume-w-requires : goal.resume-w-requires
resume-w-requires c =
    let e = c.begin-s.ensures in
    let f = fitting c.args.instants.now c.requires.1 in
    let none = e.2.list (replicate 256 zero64) (replicate 512 0) in (
      c.requires.0,
      begins c.first_counts-counts.result c.begin-s.result.timers c.begin-s.result.clock c.first_counts-counts.ensures.1 none e.1,
      f.some_instant,
      shown_within _ _ _ _ _ _ _ _ e.0 (omega arith),
      f.few,
      omega (arith, c.requires.3, e.0.cells.long),
      omega (arith, e.3, ap taken_by_timers none),
    )

pub returns-in-Refused : goal.returns-in-Refused
returns-in-Refused c =
    let a = c.args in
    let n = net_of a.net.now in
    let e = c.begin-s.ensures in
    let none = e.2.list (replicate 256 zero64) (replicate 512 0) in
    let same = c.first_counts-counts.ensures.0 ∙ initial_is n in
    let most : c.begin-s.result.peak ≡ tokens (start (readable n)) = omega (arith, e.4, e.3, ap sum_of same) in
    c.refused.ensures a.net.now.places c.resume-w.new.table
    ∙ sym (refused_first a.net.now.places (readable n) (words a.generator.s) a.instants.now a.limit a.named
    (rises zero64 a.instants.now (fitting a.instants.now c.requires.1).risen) same e.0 c.requires.3 most
    (λ i. state (e.1 i) (same i) (none i) (words (e.5 i).s))
    refl c.min.ensures (unbegun a.net.now.places (words a.generator.s)) c.in-Refused.is c.resume-w.ensures)

pub returns : goal.returns
returns c =
    let a = c.args in
    let n = net_of a.net.now in
    let e = c.begin-s.ensures in
    let none = e.2.list (replicate 256 zero64) (replicate 512 0) in
    let same = c.first_counts-counts.ensures.0 ∙ initial_is n in
    let most : c.begin-s.result.peak ≡ tokens (start (readable n)) = omega (arith, e.4, e.3, ap sum_of same) in
    let h = c.handed.ensures in
    let table = c.resume-w.new.table in
    (λ i. record { end = end_of (h.0 i); settled = h.1 i; state = h.2 a.net.now.places i; table = table })
    ∙ sym (played_first a.net.now.places (readable n) (words a.generator.s) a.instants.now a.limit a.named
    (rises zero64 a.instants.now (fitting a.instants.now c.requires.1).risen) same e.0 c.requires.3 most
    (λ i. state (e.1 i) (same i) (none i) (words (e.5 i).s))
    refl c.min.ensures (unbegun a.net.now.places (words a.generator.s))
    (not_refused c.resume-w.result.end (opened c.in_default.in_default-own.keys2)) c.resume-w.ensures)
