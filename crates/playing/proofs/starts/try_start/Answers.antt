-- The rule's pass over this one transition, by the same tests: it is delayed, it is enabled, and there is room for a timer.
use native.Mathlib.Omega.{arith}
use mathlib.Core.Path.{◌≡◌, refl, sym, ap, subst, ◌∙◌}
use mathlib.Core.Bool.{Bool}
use mathlib.Core.List.{[]}
use Prim.Native.Nat.{ℕ}
use lib.Dec.{ltb}
use lib.ListN.{length}
use Rattle.std.specs.Prelude.{is_some, true, Option}
use Rattle.std.specs.Option.{unwrap_or}
use Rattle.net.specs.Net.{pick}
use Rattle.net.specs.Readable.{readable, transition}
use Rattle.net.specs.Record.{net_of}
use Rattle.rules.specs.Timers.{Timer, timer_of, insert}
use Rattle.engine.specs.Engine.{marking}
use Rattle.timers.specs.declared.Ring.{Ring}
use Rattle.timers.specs.Turning.{timers_of, has_room}
use Rattle.playing.specs.Stepping.{Light, Ready, Roomy}
use Rattle.playing.proofs.Light.{light_pick, light_insert}
use Rattle.playing.proofs.Tokens.{start_takes}
use Rattle.playing.proofs.Rooms.{room_for, one_more_fits}
use Rattle.engine.proofs.Touching.{quiet_none}
use Rattle.playing.proofs.Passes.{try_untimed, try_disabled, try_started}
use Rattle.playing.proofs.starts.try_start.Goals as goal
use Rattle.playing.proofs.starts.try_start.Goals.{After-insert-put}

pub enabled-requires : goal.enabled-requires
enabled-requires c = let r = c.requires.1 in (c.requires.0, r.tidy, r.limits, r.small)

pub take-took-requires : goal.take-took-requires
take-took-requires c =
    let r = c.requires.1 in
    (omega (arith, c.requires.0, r.tidy.transitions), r.tidy.places, r.tidy.arcs, r.tidy.place, r.tidy.weight, r.small)

-- the timer that starts, as the program has it and as the rules have it
started : (k : After-insert-put) → let s = k.args in
    let n = net_of s.net.now in
    let q = timers_of s.ats.now s.owners.now s.ring in
    let x : Timer = timer_of s.t s.j (transition n s.j) in
    timers_of k.insert-put.new.ats k.insert-put.new.owners (unwrap_or k.insert-put.result k.args.ring) ≡ pick (has_room s.room q) (insert x q) q
started k =
    let s = k.args in
    let n = net_of s.net.now in
    let r = k.requires.1 in
    let e = k.take-took in
    let q = timers_of s.ats.now s.owners.now s.ring in
    let x : Timer = timer_of s.t s.j (transition n s.j) in
    let took : e.result.less ≡ x.taken =
    start_takes n r.tidy s.j k.requires.0 (marking n.places s.counts.now) _ e.result.less (sym k.enabled.ensures ∙ k.if-enabled.true) e.ensures.0 e.ensures.3 in
    let same : ◌≡◌ {A = Timer} (record { at = x.at; who = s.j; taken = e.result.less }) x =
    ap (λ (y : ℕ). record { at = x.at; who = s.j; taken = y }) took in
    k.insert-put.ensures.list r.sound ∙ ap (λ (y : Timer). pick (has_room s.room q) (insert y q) q) same

-- whether there is room for it
free : (k : After-insert-put) → is_some k.insert-put.result ≡ ltb (length (timers_of k.args.ats.now k.args.owners.now k.args.ring)) k.args.room
free k = k.insert-put.ensures.says ∙ room_for k.requires.2.most (timers_of k.args.ats.now k.args.owners.now k.args.ring)

ready : (k : After-insert-put) → let s = k.args in
    Ready (net_of s.net.now) s.limit.now k.take-took.new.counts k.insert-put.new.ats k.insert-put.new.owners (unwrap_or k.insert-put.result k.args.ring) × Roomy s.room (unwrap_or k.insert-put.result k.args.ring)
ready k =
    let s = k.args in
    let r = k.requires.1 in
    let e = k.take-took in
    let i = k.insert-put.ensures in
    let q = timers_of s.ats.now s.owners.now s.ring in (
      record {
        tidy = r.tidy;
        limits = r.limits;
        small = e.ensures.1;
        light = subst Light (sym (i.list r.sound)) (light_pick (has_room s.room q) _ q (light_insert _ q e.ensures.2 r.light) r.light);
        sound = i.stays r.sound;
      },
      one_more_fits (timer_of s.t s.j (transition (net_of s.net.now) s.j)) s.ats.now k.insert-put.new.ats s.owners.now k.insert-put.new.owners k.requires.2 (started k),
    )

pub returns-then-enabled : goal.returns-then-enabled
returns-then-enabled c =
    let s = c.args in
    let n = net_of s.net.now in
    let k = (goal.at.returns-then-enabled c).After-insert-put in
    let q = timers_of s.ats.now s.owners.now s.ring in
    let a = k.insert-put.new.ats in
    let o = k.insert-put.new.owners in
    let taken : is_some k.insert-put.result ≡ true = ap (λ (p : Option Ring). is_some p) c.in-Some.is in
    let left : unwrap_or k.insert-put.result s.ring ≡ c.in-Some.after = ap (λ (p : Option Ring). unwrap_or p s.ring) c.in-Some.is in
    record {
      is = try_started s.room (readable n) s.t s.j (transition n s.j) (marking n.places s.counts.now) q _ _
          c.if-d.true (sym c.enabled.ensures ∙ c.if-enabled.true) (sym (free k) ∙ taken) c.take-took.ensures.0
          (sym (ap (λ (r : Ring). timers_of a o r) left) ∙ started k
          ∙ ap (λ (b : Bool). pick b (insert (timer_of s.t s.j (transition n s.j)) q) q) (sym c.insert-put.ensures.says ∙ taken));
      ready = subst (λ (r : Ring). Ready n s.limit.now k.take-took.new.counts a o r × Roomy s.room r) left (ready k);
      quiet = (c.take-took.ensures.4 n c.requires.1.tidy c.requires.3).0;
    }

pub returns-else-enabled : goal.returns-else-enabled
returns-else-enabled c =
    let s = c.args in
    let n = net_of s.net.now in
    let m = marking n.places s.counts.now in
    record {
      is = record {
        who = [];
        is = try_disabled s.room (readable n) s.t s.j (transition n s.j) m (timers_of s.ats.now s.owners.now s.ring) (sym c.enabled.ensures ∙ c.if-enabled.false);
        none = refl;
      };
      ready = (c.requires.1, c.requires.2);
      quiet = quiet_none (readable n) m;
    }

pub returns-else-d : goal.returns-else-d
returns-else-d c =
    let s = c.args in
    let n = net_of s.net.now in
    let m = marking n.places s.counts.now in
    record {
      is = record {
        who = [];
        is = try_untimed s.room (readable n) s.t s.j (transition n s.j) m (timers_of s.ats.now s.owners.now s.ring) c.if-d.false;
        none = refl;
      };
      ready = (c.requires.1, c.requires.2);
      quiet = quiet_none (readable n) m;
    }
