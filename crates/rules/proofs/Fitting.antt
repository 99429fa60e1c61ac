-- What a halted run leaves passes the tests of a carried state: counts, times, their order, taken weights, and timers of delayed transitions.
use Prim.Native.Nat.{ℕ, ◌≤◌, ◌<◌}
use mathlib.Core.Path.{◌≡◌, refl, sym, ap, ◌∙◌, subst}
use mathlib.Core.Bool.{Bool, true, false}
use mathlib.Core.List.{List, [], ◌∷◌, map}
use mathlib.Core.Option.{Option, none, some}
use native.Mathlib.Omega.{arith}
use lib.ListN.{length}
use lib.IntN.{pos}
use lib.Ieee.{Float, inf, binary64, add, sub, mul, div, neg, lt, le, fits, is_nan}
use lib.Ieee.Fits.{add-fits}
use lib.Ieee.Bits.{is_true}
use Rattle.net.specs.Net.{Net, pick, zero64, one64, timed}
use Rattle.portable_log.specs.Log.{plog}
use Rattle.rng.specs.State.{State as Generator}
use Rattle.rng.specs.Xoshiro.{step as drawn, uniform}
use Rattle.rules.specs.Jump.{chosen}
use Rattle.rules.specs.Propensity.{propensities, total}
use Rattle.rules.specs.Exact.{adds_rounded}
use Rattle.rules.specs.Timers.{Timer, timer_of, insert, first, others}
use Rattle.rules.specs.Moves.{Entry, started, completed, fired, transition, move}
use Rattle.rules.specs.Moments.{Moment, moment, happen, moment_after}
use Rattle.rules.specs.Step.{State, state, Answer, refused, given, Starts, starts, waiting, drawn_for, Next, nothing_left, race, completion, next, Event, counts_fit, event, fire, Step, still, sets, set_clock, go_on, after_starts, step}
use Rattle.rules.specs.Run.{halted, run_within}
use Rattle.rules.specs.Demand3.{Ready, EachAllowed}
use Rattle.rules.specs.Change.{time_fits, falls}
use Rattle.rules.specs.Halting.{Bounded}
use Rattle.rules.proofs.Order.{never, neither, lt_le, lt_asym, nan_lt_l, lt_le_of}
use Rattle.rules.proofs.Allowing.{refused_given, EachDue, Leads, starts_lead, next_completion}
use Rattle.rules.proofs.Accepted.{fit_taking}
use Rattle.rules.proofs.Runs.{each_run, same_outcome, quiet_halted, reached_halted, HaltedIn}
use Rattle.rules.proofs.Detours.{low_is}
use Rattle.rules.proofs.Logs.{waits}
use Rattle.rules.proofs.Times.{most, under, most_is, sets_later, High, high_neg, add-high, div_high, high_le, time_high}

-- ---- timers

pub record TimerFits (n : Net) (x : Timer) : Type 0 where
  pub time : time_fits x.at ≡ true
  pub whole : fits binary64 x.at ≡ true
  pub light : x.taken ≤ 16_000_000
  pub mine : x.who < length n.transitions
  pub delayed : timed (transition n x.who) ≡ true

abbrev pub Each : (Timer → Type 0) → List Timer → Type 0
Each P [] = Unit
Each P (x ∷ xs) = P x × Each P xs

each_insert : (P : Timer → Type 0) (x : Timer) (q : List Timer) → P x → Each P q → Each P (insert x q)
each_insert P x [] p h = (p, tt)
each_insert P x (y ∷ ys) p h = go (lt x.at y.at) (each_insert P x ys p h.1)
  where
    go : (c : Bool) → Each P (insert x ys) → Each P (pick c (x ∷ y ∷ ys) (y ∷ insert x ys))
    go true ih = (p, h)
    go false ih = (h.0, ih)

falls_insert : (t : Float) (x : Timer) (q : List Timer) → lt x.at t ≡ false → falls t q ≡ false → falls t (insert x q) ≡ false
falls_insert t x [] p h = rw p
falls_insert t x (y ∷ ys) p h = go (lt x.at y.at) refl (falls_insert y.at x ys)
  where
    w : (lt y.at t ≡ false) × (falls y.at ys ≡ false)
    w = neither (lt y.at t) (falls y.at ys) h

    go : (c : Bool) → lt x.at y.at ≡ c → (lt x.at y.at ≡ false → falls y.at ys ≡ false → falls y.at (insert x ys) ≡ false)
        → falls t (pick c (x ∷ y ∷ ys) (y ∷ insert x ys)) ≡ false
    go true e ih = rw (p, lt_asym x.at y.at e) w.1
    go false e ih = rw w.0 (ih e w.1)

-- ---- a clock with timers, and a moment

pub record ClockFits (n : Net) (t : Float) (q : List Timer) : Type 0 where
  pub time : time_fits t ≡ true
  pub whole : fits binary64 t ≡ true
  pub timers : Each (TimerFits n) q
  pub order : falls t q ≡ false

pub record MomentFits (n : Net) (m : Moment) : Type 0 where
  pub counts : counts_fit m.counts ≡ true
  pub clock : ClockFits n m.clock m.timers

-- ---- starts

module _ (n : Net) (bounds : Bounded n) where
  start_fits : (m : Moment) (j : ℕ) → le m.clock most ≡ true → MomentFits n m → Ready n m.counts j → timed (transition n j) ≡ true → MomentFits n (happen n m (started j))
  start_fits m j early w r d =
      let x : Timer = timer_of m.clock j (transition n j) in
      let later : (lt x.at m.clock ≡ false) × (time_fits x.at ≡ true) =
      sets_later m.clock (transition n j).delay w.clock.time w.clock.whole early d (bounds.delays j r.0) in
      let fit : TimerFits n x =
      record { time = later.1; whole = is_true _ (add-fits binary64 m.clock (transition n j).delay); light = bounds.weights j r.0; mine = r.0; delayed = d } in
      record {
        counts = fit_taking (transition n j).takes m.counts w.counts;
        clock = record {
          time = w.clock.time;
          whole = w.clock.whole;
          timers = each_insert (TimerFits n) x m.timers fit w.clock.timers;
          order = falls_insert m.clock x m.timers later.0 w.clock.order;
        };
      }

  starts_fit : (js : List ℕ) (m : Moment) → le m.clock most ≡ true → MomentFits n m → EachAllowed n m.counts (map started js) → EachDue n m (map started js) → MomentFits n (moment_after n m (map started js))
  starts_fit [] m early w r d = w
  starts_fit (j ∷ js) m early w r d = starts_fit js (happen n m (started j)) early (start_fits m j early w r.0 d.0) r.1 d.1

-- ---- the event

module _ (n : Net) (last : Float) where
  -- where the clock is still below the last instant
  abbrev EventFits : Answer Event → Type 0
  EventFits (refused c) = Unit
  EventFits (given ev) = lt ev.leaves.clock last ≡ true → MomentFits n (moment ev.leaves)

  abbrev StepFits : Answer Step → Type 0
  StepFits (refused c) = Unit
  StepFits (given (still b)) = Unit
  StepFits (given (sets b js u e)) = EventFits e

  event_fits : (u : State) (e : Entry) (q : List Timer) (g : Generator) → (lt u.clock last ≡ true → ClockFits n u.clock q) → EventFits (event n u e q g)
  event_fits u e q g w = go (counts_fit (move n u.counts e)) refl
    where
      go : (c : Bool) → counts_fit (move n u.counts e) ≡ c
          → EventFits (pick c (given (record { what = e ∷ []; leaves = state u.clock (move n u.counts e) q g })) (refused 14))
      go true p = λ l. record { counts = p; clock = w l }
      go false p = tt

  fire_fits : (u : State) (o : Option ℕ) → counts_fit u.counts ≡ true → (lt u.clock last ≡ true → ClockFits n u.clock u.timers) → EventFits (fire n u o)
  fire_fits u none h w = λ l. record { counts = h; clock = w l }
  fire_fits u (some j) h w = event_fits u (fired j) u.timers u.generator w

-- a race is not before the first timer
race_first : (a0 t dt : Float) (q : List Timer) (d : Float) → next a0 t dt q ≡ race d → (d ≡ dt) × ((x : Timer) (xs : List Timer) → q ≡ x ∷ xs → le x.at (add binary64 t dt) ≡ false)
race_first a0 t dt [] d p = go (le a0 zero64) p
  where
    go : (c : Bool) → pick c nothing_left (race dt) ≡ race d → (d ≡ dt) × ((x : Timer) (xs : List Timer) → [] ≡ x ∷ xs → le x.at (add binary64 t dt) ≡ false)
    go true p = absurd (let z : ◌≡◌ {A = ℕ} 0 1 = cc in omega arith)
    go false p = ((cc), λ x xs e. absurd (let z : ◌≡◌ {A = ℕ} 0 1 = cc in omega arith))
race_first a0 t dt (y ∷ ys) d p = go (le y.at (add binary64 t dt)) refl p
  where
    go : (c : Bool) → le y.at (add binary64 t dt) ≡ c → pick c (completion y.at) (race dt) ≡ race d
        → (d ≡ dt) × ((x : Timer) (xs : List Timer) → y ∷ ys ≡ x ∷ xs → le x.at (add binary64 t dt) ≡ false)
    go true q p = absurd (let z : ◌≡◌ {A = ℕ} 0 1 = cc in omega arith)
    go false q p = ((cc), λ x xs e. let z : y ≡ x = cc in subst (λ (x : Timer). le x.at (add binary64 t dt) ≡ false) z q)

module _ (n : Net) (last : Float) (short : le last most ≡ true) where
  -- below the last instant: a number, and finite
  below_fits : (t : Float) → High t → fits binary64 t ≡ true → lt t last ≡ true → time_fits t ≡ true
  below_fits t h w l =
      let a : le zero64 t ≡ true = high_le t h (no_nan t l) in
      let b : lt t (inf false) ≡ true = under t 1 (pos 31) (sym (ap (le t) most_is) ∙ lt_le_of t most (lt_le t last most l short)) in
      rw (a, b)
    where
      no_nan : (t : Float) → lt t last ≡ true → is_nan t ≡ false
      no_nan t l = go (is_nan t) refl
        where
          go : (c : Bool) → is_nan t ≡ c → c ≡ false
          go false p = refl
          go true p = never (sym (nan_lt_l t last p) ∙ l)

  -- after a race
  raced_clock : (t dt : Float) (q : List Timer) → ClockFits n t q → High dt → ((x : Timer) (xs : List Timer) → q ≡ x ∷ xs → le x.at (add binary64 t dt) ≡ false)
      → lt (add binary64 t dt) last ≡ true → ClockFits n (add binary64 t dt) q
  raced_clock t dt q w h before l =
      record {
        time = below_fits (add binary64 t dt) (add-high t dt (time_high t w.time) h) (is_true _ (add-fits binary64 t dt)) l;
        whole = is_true _ (add-fits binary64 t dt);
        timers = w.timers;
        order = go q w.order before;
      }
    where
      go : (q : List Timer) → falls t q ≡ false → ((x : Timer) (xs : List Timer) → q ≡ x ∷ xs → le x.at (add binary64 t dt) ≡ false) → falls (add binary64 t dt) q ≡ false
      go [] p f = refl
      go (x ∷ xs) p f = rw (no (lt x.at (add binary64 t dt)) refl) (neither (lt x.at t) (falls x.at xs) p).1
        where
          no : (c : Bool) → lt x.at (add binary64 t dt) ≡ c → c ≡ false
          no false e = refl
          no true e = sym (sym (f x xs refl) ∙ lt_le_of x.at (add binary64 t dt) e)

  -- after a completion
  completed_clock : (t : Float) (x : Timer) (xs : List Timer) → ClockFits n t (x ∷ xs) → ClockFits n x.at xs
  completed_clock t x xs w =
      record { time = w.timers.0.time; whole = w.timers.0.whole; timers = w.timers.1; order = (neither (lt x.at t) (falls x.at xs) w.order).1 }

  go_on_fits : (b : Bool) (js : List ℕ) (v : State) (a0 : Float) (xs : List Float) (x : Next) → MomentFits n (moment v)
      → ((dt : Float) → x ≡ race dt → High dt × ((y : Timer) (ys : List Timer) → v.timers ≡ y ∷ ys → le y.at (add binary64 v.clock dt) ≡ false))
      → ((at : Float) → x ≡ completion at → (y : Timer) × (ys : List Timer) × (v.timers ≡ y ∷ ys) × (y.at ≡ at))
      → StepFits n last (given (go_on n b js v a0 xs x))
  go_on_fits b js v a0 xs nothing_left w f g = tt
  go_on_fits b js v a0 xs (race dt) w f g =
      let u : State = set_clock (add binary64 v.clock dt) v in
      let r : High dt × ((y : Timer) (ys : List Timer) → v.timers ≡ y ∷ ys → le y.at (add binary64 v.clock dt) ≡ false) = f dt refl in
      fire_fits n last (state u.clock u.counts u.timers (drawn u.generator)) (chosen (mul binary64 (uniform u.generator) a0) xs) w.counts
      (λ l. raced_clock v.clock dt v.timers w.clock r.0 r.1 l)
  go_on_fits b js v a0 xs (completion at) w f g =
      let k : (y : Timer) × (ys : List Timer) × (v.timers ≡ y ∷ ys) × (y.at ≡ at) = g at refl in
      event_fits n last (set_clock at v) (completed (first v.timers).who) (others v.timers) v.generator
      (λ l. subst (λ (t : Float). ClockFits n t (others v.timers)) k.3
      (subst (λ (q : List Timer). ClockFits n k.0.at (others q)) (sym k.2)
      (completed_clock v.clock k.0 k.1 (subst (λ (q : List Timer). ClockFits n v.clock q) k.2 w.clock))))

-- ---- the step

waits_high : (a0 : Float) (g : Generator) → High (waiting a0 g)
waits_high a0 g = go (lt zero64 a0) refl
  where
    go : (c : Bool) → lt zero64 a0 ≡ c → High (pick c (div binary64 (neg (plog (sub binary64 one64 (uniform g)))) a0) (inf false))
    go true p = div_high (neg (plog (sub binary64 one64 (uniform g)))) a0 (high_neg _ (low_is (plog (sub binary64 one64 (uniform g))) (waits g))) p
    go false p = refl

module _ (room : ℕ) (n : Net) (bounds : Bounded n) (last : Float) (short : le last most ≡ true) where
  step_fits : (s : State) → lt s.clock last ≡ true → MomentFits n (moment s) → StepFits n last (step room n s)
  step_fits s l w = go (starts room n s) refl
    where
      go : (r : Answer Starts) → starts room n s ≡ r → StepFits n last (after_starts n s r)
      go (refused c) p = tt
      go (given b) p =
          let a0 : Float = total (propensities n b.counts) in
          let dt : Float = waiting a0 s.generator in
          let v : State = state s.clock b.counts b.timers (drawn_for a0 s.generator) in
          let led : Leads n (moment s) (map started b.who) (moment v) = starts_lead room n s.clock s.counts s.timers b p in
          let early : le s.clock most ≡ true = lt_le_of s.clock most (lt_le s.clock last most l short) in
          let fit : MomentFits n (moment v) = subst (λ (m : Moment). MomentFits n m) led.to (starts_fit n bounds b.who (moment s) early w led.allowed led.due) in
          go_on_fits n last short (adds_rounded n b.counts) b.who v a0 (propensities n b.counts) (next a0 s.clock dt b.timers) fit
          (λ d q. let k : (d ≡ dt) × ((x : Timer) (xs : List Timer) → b.timers ≡ x ∷ xs → le x.at (add binary64 s.clock dt) ≡ false) = race_first a0 s.clock dt b.timers d q in
          subst (λ (d : Float). High d × ((y : Timer) (ys : List Timer) → b.timers ≡ y ∷ ys → le y.at (add binary64 s.clock d) ≡ false)) (sym k.0)
          (waits_high a0 s.generator, k.1))
          (λ at q. next_completion a0 s.clock dt b.timers at q)

  -- ---- the run

  pub halted_fits : (k : ℕ) (s u : State) → MomentFits n (moment s) → HaltedIn u (run_within halted room n last k s) → MomentFits n (moment u)
  halted_fits k s u w h =
      each_run halted room n last (λ k s r. (lt s.clock last ≡ true → MomentFits n (moment s)) → (u : State) → HaltedIn u r → MomentFits n (moment u)) (record {
        over = λ k s p w u h. reached_halted (same_outcome h).0;
        done = λ s p w u h. subst (λ (v : State). MomentFits n (moment v)) (same_outcome h).1 (w p);
        no_start = λ k s c q w u h. refused_given h;
        nothing = λ k s b p q w u h. quiet_halted (same_outcome h).0;
        past = λ k s b js v e q p w u h. reached_halted (same_outcome h).0;
        no_event = λ k s b js v c q w u h. refused_given h;
        goes_on = λ k s b js v ev r l q p ih w u h. ih (subst (λ (r : Answer Step). StepFits n last r) q (step_fits s l (w l))) u h;
      }) k s (λ l. w) u h
