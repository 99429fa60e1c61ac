-- Where no delayed transition is enabled at a step's beginning none starts, and its event has an entry, since a race comes only where a0 > 0.
-- Where one is enabled one starts, or the step is refused, so that the tokens of now come into the peak.
use Prim.Native.Nat.{ℕ, zero, suc, ◌≤◌, ◌<◌, max}
use mathlib.Core.Path.{◌≡◌, refl, sym, ap, ◌∙◌, subst}
use mathlib.Core.Bool.{Bool, true, false, not, ◌&&◌, ◌||◌, true≢false}
use mathlib.Core.Logic.{◌≢◌}
use mathlib.Core.List.{List, [], ◌∷◌, map}
use mathlib.Core.Option.{Option, none, some}
use native.Mathlib.Omega.{arith}
use borrow.Author.Tests.{ltb-true, not-false}
use lib.Dec.{ltb}
use lib.ListN.{length}
use lib.Seq.{take-length}
use lib.Ieee.{Float, nan, inf, fin, binary64, add, mul, of_bits, lt, le, eq}
use Rattle.net.specs.Net.{Transition, Net, Marking, pick, zero64, timed}
use Rattle.net.specs.Tests.{any, empty}
use Rattle.rng.specs.State.{State as Generator}
use Rattle.rng.specs.Xoshiro.{step as drawn, uniform}
use Rattle.rules.specs.Enabled.{enabled}
use Rattle.rules.specs.Propensity.{propensities, total}
use Rattle.rules.specs.Exact.{adds_rounded}
use Rattle.rules.specs.Jump.{chosen}
use Rattle.rules.specs.Timers.{Timer, timer_of, insert, first, others}
use Rattle.rules.specs.Moves.{Entry, started, completed, fired, transition, taking, move}
use Rattle.rules.specs.Moments.{moment, tokens, peak_from}
use Rattle.rules.specs.Step.{State, state, Answer, refused, given, Starts, preceded, pass, nobody, unless_none, passes, starts, waiting, drawn_for, race, completion, nothing_left, next, Event, counts_fit, event, fire, raced, Step, still, sets, set_clock, go_on, after_starts, step}
use Rattle.rules.specs.Run.{End, reached}
use Rattle.rules.specs.Gillespie.{Accepted}
use Rattle.rules.specs.Demand3.{places_once}
use Rattle.rules.specs.Change.{time_fits}
use Rattle.rules.proofs.Order.{never, both, neither, not_le, lt_le_of, le_nan_l, le_nan_r}
use Rattle.rules.proofs.Allowing.{given_same, refused_given, StepGood, step_good}
use Rattle.rules.proofs.Peaks.{starts_peak}
use Rattle.rules.proofs.Detours.{chosen_some, starts_done, still_same}
use Rattle.rules.proofs.Play.{Played, up_to, beyond, over, higher, step_and, on_event, play_within}
use Rattle.rules.proofs.PlayLaws.{play_refused, play_sets}
use Rattle.rules.proofs.Gillespie.{zero_below_sum}
use Rattle.rules.proofs.Bounded.{propensities_none_negative}
use Rattle.rules.proofs.Accepted.{fit_held}

-- whether a transition would start at these counts
abbrev pub ready : Net → Marking → Transition → Bool
ready n m t = timed t && enabled n m t

-- ---- none is ready

module _ (room : ℕ) (n : Net) (t : Float) where
  pass_none : (j : ℕ) (ts : List Transition) (m : Marking) (q : List Timer) → any (ready n m) ts ≡ false
      → pass room n t j ts m q ≡ given (record { who = []; counts = m; timers = q })
  pass_none j [] m q h = refl
  pass_none j (this ∷ rest) m q h =
      let w : (ready n m this ≡ false) × (any (ready n m) rest ≡ false) = neither (ready n m this) (any (ready n m) rest) h in
      rw w.0 (pass_none (suc j) rest m q w.1)

starts_none : (room : ℕ) (n : Net) (s : State) → any (ready n s.counts) n.transitions ≡ false
    → starts room n s ≡ given (record { who = []; counts = s.counts; timers = s.timers })
starts_none room n s h = ap (unless_none (passes room room n s.clock)) (pass_none room n s.clock 0 n.transitions s.counts s.timers h)

-- an event, where there is one, has an entry
abbrev Happens : Answer Event → Type 0
Happens e = (ev : Event) → e ≡ given ev → empty ev.what ≡ false

event_happens : (n : Net) (u : State) (e : Entry) (q : List Timer) (g : Generator) → Happens (event n u e q g)
event_happens n u e q g = go (counts_fit (move n u.counts e))
  where
    go : (c : Bool) → Happens (pick c (given (record { what = e ∷ []; leaves = state u.clock (move n u.counts e) q g })) (refused 14))
    go true ev p = ap (λ (x : Event). empty x.what) (sym (given_same p))
    go false ev p = refused_given p

fire_happens : (n : Net) (u : State) (o : Option ℕ) → o ≢ none → Happens (fire n u o)
fire_happens n u none h = absurd (h refl)
fire_happens n u (some j) h = event_happens n u (fired j) u.timers u.generator

-- a time and an infinite waiting time
add_infinite : (t : Float) → le zero64 t ≡ true → add binary64 t (inf false) ≡ inf false
unfolding add le lt eq of_bits
add_infinite nan p = never p
add_infinite (inf true) p = never p
add_infinite (inf false) p = refl
add_infinite (fin s m e) p = refl

abbrev StepHappens : Answer Step → Type 0
StepHappens (refused c) = Unit
StepHappens (given (still b)) = Unit
StepHappens (given (sets b js u e)) = (js ≡ []) × Happens e

module _ (n : Net) (a : Accepted n) (m : Marking) (fits : counts_fit m ≡ true) (t : Float) (time : time_fits t ≡ true) (g : Generator) where
  abbrev props : List Float
  props = propensities n m

  -- the total is a number
  above : le zero64 (total props) ≡ true
  above =
      ap (λ (l : List Float). le zero64 (total l)) (sym (take-length props))
      ∙ zero_below_sum props (propensities_none_negative n a m (fit_held m fits)) (length props)

  -- so it is above 0 in a race where no timer runs,
  race_alone : le (total props) zero64 ≡ false → lt zero64 (total props) ≡ true
  race_alone p = not_le (total props) zero64 (le_nan_r zero64 (total props) above) (le_nan_l zero64 (total props) above) p

  -- and in one before a completion: else the waiting time were infinite
  race_before : (at : Float) → time_fits at ≡ true → le at (add binary64 t (waiting (total props) g)) ≡ false → lt zero64 (total props) ≡ true
  race_before at h p = go (lt zero64 (total props)) _ p
    where
      go : (c : Bool) (dt : Float) → le at (add binary64 t (pick c dt (inf false))) ≡ false → c ≡ true
      go true dt p = refl
      go false dt p =
          let early : le at (inf false) ≡ true = lt_le_of at (inf false) (both (le zero64 at) (lt at (inf false)) h).1 in
          let late : add binary64 t (inf false) ≡ inf false = add_infinite t (both (le zero64 t) (lt t (inf false)) time).0 in
          sym p ∙ ap (le at) late ∙ early

  raced_happens : (u : State) → lt zero64 (total props) ≡ true → Happens (raced n u (total props) props)
  raced_happens u p =
      let r : Float = mul binary64 (uniform u.generator) (total props) in
      fire_happens n (state u.clock u.counts u.timers (drawn u.generator)) (chosen r props) (chosen_some r props p)

  next_happens : (b : Bool) (v : State) (q : List Timer) → any (λ (x : Timer). not (time_fits x.at)) q ≡ false
      → StepHappens (given (go_on n b [] v (total props) props (next (total props) t (waiting (total props) g) q)))
  next_happens b v [] h = go (le (total props) zero64) refl
    where
      go : (c : Bool) → le (total props) zero64 ≡ c
          → StepHappens (given (go_on n b [] v (total props) props (pick c nothing_left (race (waiting (total props) g)))))
      go true p = tt
      go false p = (refl, raced_happens (set_clock (add binary64 v.clock (waiting (total props) g)) v) (race_alone p))
  next_happens b v (x ∷ q) h = go (le x.at (add binary64 t (waiting (total props) g))) refl
    where
      go : (c : Bool) → le x.at (add binary64 t (waiting (total props) g)) ≡ c
          → StepHappens (given (go_on n b [] v (total props) props (pick c (completion x.at) (race (waiting (total props) g)))))
      go true p = (refl, event_happens n (set_clock x.at v) (completed (first v.timers).who) (others v.timers) v.generator)
      go false p =
          let fit : time_fits x.at ≡ true =
          not-false (time_fits x.at) (neither (not (time_fits x.at)) (any (λ (y : Timer). not (time_fits y.at)) q) h).0 in
          (refl, raced_happens (set_clock (add binary64 v.clock (waiting (total props) g)) v) (race_before x.at fit p))

-- what a step that starts none does
pub happens : (room : ℕ) (n : Net) (s : State) → Accepted n → counts_fit s.counts ≡ true → time_fits s.clock ≡ true
    → any (λ (x : Timer). not (time_fits x.at)) s.timers ≡ false → any (ready n s.counts) n.transitions ≡ false
    → (b : Bool) (js : List ℕ) (u : State) (e : Answer Event) → step room n s ≡ given (sets b js u e)
    → (js ≡ []) × ((ev : Event) → e ≡ given ev → empty ev.what ≡ false)
happens room n s a fits time times off b js u e p =
    let a0 : Float = total (propensities n s.counts) in
    let v : State = state s.clock s.counts s.timers (drawn_for a0 s.generator) in
    subst StepHappens (sym (ap (after_starts n s) (starts_none room n s off)) ∙ p)
    (next_happens n a s.counts fits s.clock time s.generator (adds_rounded n s.counts) v s.timers times)

-- ---- one is ready

-- one starts, for which there is room
abbrev Begins : ℕ → List Timer → Answer Starts → Type 0
Begins room q (refused c) = Unit
Begins room q (given b) = (nobody b.who ≡ false) × (length q < room)

begins_with : (room : ℕ) (q : List Timer) (j : ℕ) (js : List ℕ) → length q < room → (r : Answer Starts) → Begins room q (preceded (j ∷ js) r)
begins_with room q j js h (refused c) = tt
begins_with room q j js h (given b) = (refl, h)

module _ (room : ℕ) (n : Net) (t : Float) where
  pass_some : (j : ℕ) (ts : List Transition) (m : Marking) (q : List Timer) → any (ready n m) ts ≡ true → Begins room q (pass room n t j ts m q)
  pass_some j [] m q h = never h
  pass_some j (this ∷ rest) m q h = go (ready n m this) (ltb (length q) room) refl h (λ k. pass_some (suc j) rest m q k)
    where
      skipped : Answer Starts
      skipped = pass room n t (suc j) rest m q

      onward : Answer Starts
      onward = pass room n t (suc j) rest (taking m this.takes) (insert (timer_of t j this) q)

      go : (c d : Bool) → ltb (length q) room ≡ d → c || any (ready n m) rest ≡ true → (any (ready n m) rest ≡ true → Begins room q skipped)
          → Begins room q (pick c (pick d (preceded (j ∷ []) onward) (refused 15)) skipped)
      go false d e h ih = ih h
      go true false e h ih = tt
      go true true e h ih = begins_with room q j [] (ltb-true (length q) room e) onward

  passes_some : (k : ℕ) (q : List Timer) (r : Answer Starts) → Begins room q r → Begins room q (unless_none (passes k room n t) r)
  passes_some k q (refused c) h = tt
  passes_some k q (given b) h = go b.who h
    where
      go : (js : List ℕ) → (nobody js ≡ false) × (length q < room)
          → Begins room q (pick (nobody js) (given b) (preceded js (passes k room n t b.counts b.timers)))
      go [] h = never (sym h.0)
      go (j ∷ js) h = begins_with room q j js h.1 (passes k room n t b.counts b.timers)

-- one starts, and a clock reading follows
abbrev StepBegins : Answer Step → Type 0
StepBegins (refused c) = Unit
StepBegins (given (still b)) = ⊥
StepBegins (given (sets b js u e)) = nobody js ≡ false

next_begins : (n : Net) (b : Bool) (js : List ℕ) (v : State) (a0 t dt : Float) (xs : List Float) (q : List Timer) → nobody js ≡ false → (q ≡ [] → ⊥)
    → StepBegins (given (go_on n b js v a0 xs (next a0 t dt q)))
next_begins n b js v a0 t dt xs [] h r = absurd (r refl)
next_begins n b js v a0 t dt xs (x ∷ q) h r = go (le x.at (add binary64 t dt))
  where
    go : (c : Bool) → StepBegins (given (go_on n b js v a0 xs (pick c (completion x.at) (race dt))))
    go true = h
    go false = h

module _ (room : ℕ) (n : Net) (s : State) (on : any (ready n s.counts) n.transitions ≡ true) where
  starts_some : Begins room s.timers (starts room n s)
  starts_some =
      passes_some room n s.clock room s.timers (pass room n s.clock 0 n.transitions s.counts s.timers)
      (pass_some room n s.clock 0 n.transitions s.counts s.timers on)

  -- a timer runs: without one nothing has changed, and the last pass would have started one
  runs : (b : Starts) → starts room n s ≡ given b → length s.timers < room → b.timers ≡ [] → ⊥
  runs b p l e =
      let same : b.counts ≡ s.counts = (still_same room n s (omega arith) b p e).0 in
      let again : Begins room b.timers (pass room n s.clock 0 n.transitions b.counts b.timers) =
      pass_some room n s.clock 0 n.transitions b.counts b.timers (rw same on) in
      true≢false (subst (Begins room b.timers) (starts_done room n s (omega arith) b p) again).0

  step_begins : StepBegins (step room n s)
  step_begins = go (starts room n s) refl starts_some
    where
      go : (r : Answer Starts) → starts room n s ≡ r → Begins room s.timers r → StepBegins (after_starts n s r)
      go (refused c) p w = tt
      go (given b) p w =
          let a0 : Float = total (propensities n b.counts) in
          let v : State = state s.clock b.counts b.timers (drawn_for a0 s.generator) in
          next_begins n (adds_rounded n b.counts) b.who v a0 s.clock (waiting a0 s.generator) (propensities n b.counts) b.timers w.0
          (runs b p w.1)

-- ---- the peak

-- a value that the moments to come reach does not count
higher_below : (v w : ℕ) → v ≤ w → (r : Answer Played) → higher v (higher w r) ≡ higher w r
higher_below v w h (refused c) = refl
higher_below v w h (given r) = let e : max v (max w r.peak) ≡ max w r.peak = omega arith in rw e

module _ (out : End) (room : ℕ) (n : Net) (once : (j : ℕ) → places_once (transition n j).takes ≡ true) (last : Float) (xs : List Float) (s : State)
    (below : lt s.clock last ≡ true) (on : any (ready n s.counts) n.transitions ≡ true) (v : ℕ) (low : v ≤ tokens (moment s)) where
  -- the tokens of now come in with the start
  pub begins_high : (k : ℕ) → 0 < k → higher (tokens (moment s)) (play_within out room n last k xs s) ≡ higher v (play_within out room n last k xs s)
  begins_high zero z = absurd (omega arith)
  begins_high (suc k) z = go (step room n s) refl (step_begins room n s on)
    where
      go : (r : Answer Step) → step room n s ≡ r → StepBegins r
          → higher (tokens (moment s)) (play_within out room n last (suc k) xs s) ≡ higher v (play_within out room n last (suc k) xs s)
      go (refused c) p w = rw (play_refused out room n last xs s k below c p)
      go (given (still b)) p w = absurd w
      go (given (sets b js u e)) p w =
          let peak : ℕ = peak_from n 0 (moment s) (map started js) in
          let all : peak ≡ max 0 (tokens (moment s)) =
          starts_peak n once js (moment s) 0 (subst (StepGood n s) p (step_good room n s)).starts.allowed
          ∙ ap (λ (c : Bool). pick c 0 (max 0 (tokens (moment s)))) w in
          let ys : List Float = beyond u.clock xs in
          let r : Answer Played =
          step_and b u.counts (up_to u.clock xs)
          (pick (lt last u.clock) (given (over reached u ys)) (on_event n u e (play_within out room n last k ys))) in
          rw (play_sets out room n last xs s k below b js u e p)
          (higher_below (tokens (moment s)) peak (omega arith) r ∙ sym (higher_below v peak (omega arith) r))
