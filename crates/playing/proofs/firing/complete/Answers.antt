-- The first timer leaves, and its transition puts; a number that no transition has puts nothing, in the rules too. The tokens are those put more, and those that
-- the timer had taken less.
use borrow.Author.Rules.{rules}
use native.Mathlib.Omega.{arith}
use mathlib.Core.Path.{◌≡◌, sym, subst}
use mathlib.Core.Bool.{true, false, false≢true}
use mathlib.Core.List.{List}
use Prim.Native.Nat.{ℕ, ◌+◌, ◌≤◌}
use Rattle.net.specs.Readable.{readable}
use Rattle.net.specs.Record.{net_of}
use Rattle.rules.specs.Timers.{others}
use Rattle.engine.specs.Engine.{Counts, marking}
use Rattle.engine.proofs.Touching.{quiet_none}
use Rattle.timers.specs.Turning.{running, timers_of}
use Rattle.playing.specs.Stepping.{Light, Ready, state_of, tokens_of}
use Rattle.playing.proofs.Light.{light_others}
use Rattle.playing.proofs.Tokens.{tokens_few}
use Rattle.playing.proofs.Rooms.{one_fewer}
use Rattle.playing.proofs.Steps.{timer_left, complete_at, complete_past}
use Rattle.playing.proofs.firing.complete.Goals as goal
use Rattle.playing.proofs.firing.complete.Goals.{After-remove_first-left}

-- the list once the timer has left
others_left : (r : After-remove_first-left) → timers_of r.args.ats.now r.args.owners.now r.remove_first-left.result ≡ others (timers_of r.args.ats.now r.args.owners.now r.args.ring)
others_left r = r.remove_first-left.ensures.list r.args.ats.now r.args.owners.now

-- the tokens then, at counts that are as they were
left_less : (r : After-remove_first-left)
    → r.args.tokens ≡ tokens_of (state_of (net_of r.args.net.now) r.args.counts.now r.args.ats.now r.args.owners.now r.remove_first-left.result r.args.clock r.args.rng.s) + r.first-x.result.taken
left_less r =
    let a = r.args in
    omega (
      arith,
      r.requires.1,
      timer_left (net_of a.net.now) a.counts.now a.ats.now a.owners.now a.ring r.remove_first-left.result a.clock a.rng.s r.first-x.result r.first-x.ensures (others_left r),
    )

-- the arrays then
ready : (r : After-remove_first-left) (counts : List ℕ) → Counts counts
    → Ready (net_of r.args.net.now) r.args.limit.now counts r.args.ats.now r.args.owners.now r.remove_first-left.result
    × (running r.remove_first-left.result ≤ running r.args.ring)
ready r counts h =
    let p = r.requires.0 in
    let a = r.args in (
      record {
        tidy = p.tidy;
        limits = p.limits;
        small = h;
        light = subst Light (sym (others_left r)) (light_others (timers_of a.ats.now a.owners.now a.ring) p.light);
        sound = r.remove_first-left.ensures.stays a.ats.now a.owners.now p.sound;
      },
      one_fewer a.ats.now a.owners.now a.ring r.remove_first-left.result (others_left r),
    )

pub overflow_sub-fewer : goal.overflow_sub-fewer
overflow_sub-fewer c = omega (arith, left_less (goal.at.overflow_sub-fewer c).After-remove_first-left)

pub overflow_add-result : goal.overflow_add-result
overflow_add-result c = omega (arith, c.requires.1, tokens_few c.args.clock c.args.rng.s c.requires.0, c.in-Some.ensures.told.1)

pub returns-in-Some : goal.returns-in-Some
returns-in-Some c =
    let r = (goal.at.returns-in-Some c).After-remove_first-left in
    let a = c.args in
    let p = c.in-Some.ensures in
    record {
      is = complete_at (net_of a.net.now) a.counts.now a.ats.now a.owners.now a.ring c.remove_first-left.result a.clock a.rng.s
          c.first-x.result c.first-x.ensures (others_left r) c.put.new.counts true _ c.if-j-net.true p.puts (λ e. omega (arith, left_less r, p.told.0));
      ready = ready r c.put.new.counts p.small;
      quiet = (p.told.2 (net_of a.net.now) c.requires.0.tidy c.requires.2).0;
    }

pub returns-in-None : goal.returns-in-None
returns-in-None c =
    let r = (goal.at.returns-in-None c).After-remove_first-left in
    let a = c.args in
    let p = c.in-None.ensures in
    record {
      is = complete_at (net_of a.net.now) a.counts.now a.ats.now a.owners.now a.ring c.remove_first-left.result a.clock a.rng.s
          c.first-x.result c.first-x.ensures (others_left r) c.put.new.counts false _ c.if-j-net.true p.puts (λ e. absurd (false≢true e));
      ready = ready r c.put.new.counts p.small;
      quiet = search rules;
    }

pub returns : goal.returns
returns c =
    let r = (goal.at.returns c).After-remove_first-left in
    let a = c.args in
    let h = c.requires.0.small in
    record {
      is = complete_past (net_of a.net.now) a.counts.now a.ats.now a.owners.now a.ring c.remove_first-left.result a.clock a.rng.s
          c.first-x.result c.first-x.ensures (others_left r) _ c.if-j-net.false h (omega (arith, left_less r));
      ready = ready r a.counts.now h;
      quiet = quiet_none (readable (net_of a.net.now)) (marking a.net.now.places a.counts.now);
    }
