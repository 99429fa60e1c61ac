-- The draw and the choice are the rules'; the chosen transition fires. Where none is chosen, or a number that no transition has, nothing happens.
use borrow.Author.Rules.{rules}
use native.Mathlib.Omega.{arith}
use mathlib.Core.Path.{refl, sym, ap, ◌∙◌}
use mathlib.Core.Bool.{true, false, false≢true}
use mathlib.Core.List.{List}
use mathlib.Core.Option.{some, none}
use Prim.Native.Nat.{ℕ, ◌≤◌}
use lib.ListN.{take}
use Rattle.net.specs.Readable.{readable}
use Rattle.net.specs.Record.{net_of}
use Rattle.engine.specs.Engine.{Counts, marking}
use Rattle.engine.proofs.Touching.{quiet_none}
use Rattle.timers.specs.Turning.{running}
use Rattle.jump.specs.Answers.{choice_of}
use Rattle.playing.specs.Stepping.{Ready}
use Rattle.playing.proofs.Tokens.{tokens_few}
use Rattle.playing.proofs.Steps.{race_none, race_at, race_past}
use Rattle.playing.proofs.firing.race.Goals as goal
use Rattle.playing.proofs.firing.race.Goals.{Start}

-- the arrays with other counts
ready : (s : Start) (counts : List ℕ) → Counts counts
    → Ready (net_of s.args.net.now) s.args.limit.now counts s.args.ats.now s.args.owners.now s.args.ring × (running s.args.ring ≤ running s.args.ring)
ready s counts h =
    let p = s.requires.0 in
    (record { tidy = p.tidy; limits = p.limits; small = h; light = p.light; sound = p.sound }, omega arith)

pub choose_by_sums-chosen-requires : goal.choose_by_sums-chosen-requires
choose_by_sums-chosen-requires c = (c.requires.0.tidy.transitions, c.requires.1, c.requires.2)

pub fire-requires : goal.fire-requires
fire-requires c =
    let t = c.requires.0.tidy in
    (omega (arith, c.if-j-net.true, t.transitions), t.places, t.arcs, t.place, t.weight, c.requires.0.small, t.order _ c.if-j-net.true)

pub overflow_add-result : goal.overflow_add-result
overflow_add-result c = omega (arith, c.requires.3, tokens_few c.args.clock c.args.rng.s c.requires.0, c.in-Some-fire.ensures.told.1)

pub overflow_sub-result : goal.overflow_sub-result
overflow_sub-result c = omega (arith, c.requires.3, c.in-Some-fire.ensures.told.0)

pub returns-in-Some-fire : goal.returns-in-Some-fire
returns-in-Some-fire c =
    let a = c.args in
    let n = net_of a.net.now in
    let d = c.uniform-d in
    let p = c.in-Some-fire.ensures in
    record {
      is = race_at n a.counts.now a.ats.now a.owners.now a.ring a.clock a.a0 a.rng.s d.result.rng.s (take n.transitions a.props.now) d.result.value (some c.in-Some.j)
          d.ensures.0 d.ensures.1 (sym (ap choice_of c.in-Some.is) ∙ c.choose_by_sums-chosen.ensures) c.in-Some.j refl c.if-j-net.true c.fire.new.counts _ true p.moves
          (λ z. omega (arith, c.requires.3, p.told.0));
      ready = ready (goal.at.returns-in-Some-fire c).Start c.fire.new.counts p.small;
      quiet = (p.told.2 n c.requires.0.tidy c.requires.4).0;
    }

pub returns-in-None-fire : goal.returns-in-None-fire
returns-in-None-fire c =
    let a = c.args in
    let n = net_of a.net.now in
    let d = c.uniform-d in
    let p = c.in-None-fire.ensures in
    record {
      is = race_at n a.counts.now a.ats.now a.owners.now a.ring a.clock a.a0 a.rng.s d.result.rng.s (take n.transitions a.props.now) d.result.value (some c.in-Some.j)
          d.ensures.0 d.ensures.1 (sym (ap choice_of c.in-Some.is) ∙ c.choose_by_sums-chosen.ensures) c.in-Some.j refl c.if-j-net.true c.fire.new.counts _ false p.moves
          (λ z. absurd (false≢true z));
      ready = ready (goal.at.returns-in-None-fire c).Start c.fire.new.counts p.small;
      quiet = search rules;
    }

pub returns-in-None : goal.returns-in-None
returns-in-None c =
    let a = c.args in
    let n = net_of a.net.now in
    let d = c.uniform-d in
    record {
      is = race_none n a.counts.now a.ats.now a.owners.now a.ring a.clock a.a0 a.rng.s d.result.rng.s (take n.transitions a.props.now) d.result.value none
          d.ensures.0 d.ensures.1 (sym (ap choice_of c.in-None.is) ∙ c.choose_by_sums-chosen.ensures) _ refl (omega (arith, c.requires.3));
      ready = ready (goal.at.returns-in-None c).Start a.counts.now c.requires.0.small;
      quiet = quiet_none (readable n) (marking n.places a.counts.now);
    }

pub returns-else-j-net : goal.returns-else-j-net
returns-else-j-net c =
    let a = c.args in
    let n = net_of a.net.now in
    let d = c.uniform-d in
    record {
      is = race_past n a.counts.now a.ats.now a.owners.now a.ring a.clock a.a0 a.rng.s d.result.rng.s (take n.transitions a.props.now) d.result.value (some c.in-Some.j)
          d.ensures.0 d.ensures.1 (sym (ap choice_of c.in-Some.is) ∙ c.choose_by_sums-chosen.ensures) c.in-Some.j refl _ c.if-j-net.false c.requires.0.small (omega (arith, c.requires.3));
      ready = ready (goal.at.returns-else-j-net c).Start a.counts.now c.requires.0.small;
      quiet = quiet_none (readable n) (marking n.places a.counts.now);
    }
