-- What the parts of a step leave, in the rules' words: a completion, a race, and the starts up to the new clock reading. The transition that a number
-- names is that of the record, or one without arcs. Assumes nothing.
use Prim.Native.Nat.{ℕ, ◌+◌, ◌≤◌, ◌<◌, max}
use mathlib.Core.Path.{◌≡◌, refl, sym, ap, ◌∙◌, subst}
use mathlib.Core.Bool.{Bool, true, false, true≢false}
use mathlib.Core.List.{List, [], ◌∷◌}
use mathlib.Core.Option.{Option, none, some}
use native.Mathlib.Omega.{arith}
use lib.ListN.{length, take}
use lib.Ieee.{Float, binary64, add, mul, lt, le}
use Rattle.std.specs.Prelude.{Option as Perhaps}
use Rattle.refusals.specs as Refusal
use Rattle.refusals.specs.declared.Refusal.TheVariants.{CountTooLarge}
use Rattle.net.specs.declared.Net.{Net as NetRecord}
use Rattle.net.specs.Net.{Transition, Net, Marking, pick, zero64}
use Rattle.net.specs.Readable.{readable, slots_of, takes_of, arcs_of, is_put}
use Rattle.rng.specs.State.{State as Generator, words}
use Rattle.rng.specs.Xoshiro.{step as drawn, uniform}
use Rattle.rules.specs.Jump.{chosen}
use Rattle.rules.specs.Moves.{Entry, completed, fired, transition, taking, putting, move}
use Rattle.rules.specs.Propensity.{propensities, total}
use Rattle.rules.specs.Moments.{taken_by_timers}
use Rattle.rules.specs.Exact.{adds_rounded}
use Rattle.rules.specs.Timers.{Timer, first, others}
use Rattle.rules.specs.Step.{State, state, Answer, refused, given, starts, waiting, drawn_for, Next, nothing_left, race, completion, next, Event, counts_fit, event, complete, fire, raced, Step, still, sets, go_on, after_starts, step}
use Rattle.rules.proofs.Counts.{once_each}
use Rattle.rules.proofs.Allowing.{StepGood, step_good}
use Rattle.rules.proofs.Peaks.{sets_tokens}
use Rattle.rules.proofs.Detours.{still_same, not_drawn}
use Rattle.playing.specs.declared.firing.Change.{Change}
use Rattle.playing.specs.declared.step.Ending.TheVariants.{GoesOn, Reached, Refused}
use Rattle.playing.specs.declared.step.Due.{Due}
use Rattle.playing.specs.declared.step.Due.TheVariants.{Nothing, Event as Follows}
use Rattle.jump.specs.Answers.{Told}
use Rattle.timers.specs.declared.Timer.{Timer as TimerStruct}
use Rattle.timers.specs.declared.Ring.{Ring}
use Rattle.timers.specs.Turning.{running, timers_of, timer_of}
use Rattle.timers.proofs.Rings.{length_timers}
use Rattle.engine.specs.Engine.{Tidy, marking, Counts, PutBy, Totalled}
use Rattle.playing.specs.Starts.{Begun, Full as NoRoom}
use Rattle.playing.specs.Stepping as Stepping
use Rattle.playing.specs.Stepping.{state_of, tokens_of, event_of, AdvancedBy, EventBy, ChangedBy, happens, too_large, StepBy}
use Rattle.engine.proofs.Marks.{fit_all}
use Rattle.engine.proofs.Sides.{transition_at}
use Rattle.playing.proofs.Tokens.{transition_past, taken_first}

-- ---- events

-- an event whose counts a put has found
event_by : (n : Net) (s : State) (e : Entry) (q : List Timer) (g : Generator) (fits : Bool) (found : Marking) (u : State) (many : ℕ)
    → PutBy fits (move n s.counts e) found → state s.clock found q g ≡ u → (fits ≡ true → many ≡ tokens_of u) → EventBy (event n s e q g) u many fits
event_by n s e q g fits found u many p h all = go fits p.says p.gives all
  where
    m : Marking
    m = move n s.counts e

    this : Event
    this = record { what = e ∷ []; leaves = state s.clock m q g }

    go : (b : Bool) → b ≡ counts_fit m → (b ≡ true → found ≡ m) → (b ≡ true → many ≡ tokens_of u) → EventBy (event n s e q g) u many b
    go true says gives all =
        happens this (ap (λ (c : Bool). pick c (given this) (refused Refusal.count_too_large)) (sym says))
        (ap (λ (x : Marking). state s.clock x q g) (sym (gives refl)) ∙ h) (all refl)
    go false says gives all = too_large (ap (λ (c : Bool). pick c (given this) (refused Refusal.count_too_large)) (sym says))

-- nothing is put
put_none : (places : ℕ) (counts : List ℕ) → Counts counts → PutBy true (marking places counts) (marking places counts)
put_none places counts h = record { says = sym (fit_all places counts h.small); gives = λ t. refl }

-- a completion: the first timer x leaves, and its transition puts
module _ (n : NetRecord) (counts : List ℕ) (ats : List Float) (owners : List ℕ) (ring ring' : Ring) (t : Float) (ws : List ℕ) (x : TimerStruct)
    (f : timer_of x ≡ first (timers_of ats owners ring)) (o : timers_of ats owners ring' ≡ others (timers_of ats owners ring)) where
  abbrev from : State
  from = state_of n counts ats owners ring t ws

  abbrev to : List ℕ → State
  to counts' = state_of n counts' ats owners ring' t ws

  -- the tokens once it has left
  pub timer_left : tokens_of from ≡ tokens_of (to counts) + x.taken
  timer_left =
      omega (arith, taken_first (timers_of ats owners ring), ap (λ (y : Timer). y.taken) f, ap taken_by_timers o)

  completes : (counts' : List ℕ) (r : Bool) (many : ℕ)
      → PutBy r (putting (marking n.places counts) (transition (readable n) x.who).puts) (marking n.places counts')
      → (r ≡ true → many ≡ tokens_of (to counts')) → EventBy (complete (readable n) from) (to counts') many r
  completes counts' r many p all =
      event_by (readable n) from (completed (first (timers_of ats owners ring)).who) (others (timers_of ats owners ring)) (words ws) r
      (marking n.places counts') (to counts') many
      (subst (λ (j : ℕ). PutBy r (putting (marking n.places counts) (transition (readable n) j).puts) (marking n.places counts')) (ap (λ (y : Timer). y.who) f) p)
      (ap (λ (q : List Timer). state t (marking n.places counts') q (words ws)) (sym o)) all

  pub complete_at : (counts' : List ℕ) (r : Bool) (many : ℕ) → x.who < n.transitions
      → PutBy r (putting (marking n.places counts) (arcs_of is_put (slots_of n x.who))) (marking n.places counts')
      → (r ≡ true → many ≡ tokens_of (to counts')) → EventBy (complete (readable n) from) (to counts') many r
  complete_at counts' r many h p all =
      completes counts' r many
      (subst (λ (y : Transition). PutBy r (putting (marking n.places counts) y.puts) (marking n.places counts')) (sym (transition_at n x.who h)) p)
      all

  pub complete_past : (many : ℕ) → n.transitions ≤ x.who → Counts counts → many ≡ tokens_of (to counts) → EventBy (complete (readable n) from) (to counts) many true
  complete_past many h c all =
      completes counts true many
      (subst (λ (y : Transition). PutBy true (putting (marking n.places counts) y.puts) (marking n.places counts)) (sym (transition_past n x.who h))
      (put_none n.places counts c))
      (λ e. all)

-- a race: the draw x chooses o
module _ (n : NetRecord) (counts : List ℕ) (ats : List Float) (owners : List ℕ) (ring : Ring) (t a0 : Float) (ws ws' : List ℕ) (xs : List Float) (x : Float) (o : Option ℕ)
    (value : x ≡ uniform (words ws)) (draws : words ws' ≡ drawn (words ws)) (choice : o ≡ chosen (mul binary64 x a0) xs) where
  abbrev after : List ℕ → State
  after counts' = state_of n counts' ats owners ring t ws'

  races : (u : State) (many : ℕ) (r : Bool) → EventBy (fire (readable n) (after counts) o) u many r
      → EventBy (raced (readable n) (state_of n counts ats owners ring t ws) a0 xs) u many r
  races u many r e =
      subst (λ (a : Answer Event). EventBy a u many r)
      (ap (λ (g : Generator). fire (readable n) (state t (marking n.places counts) (timers_of ats owners ring) g) o) draws
      ∙ ap (λ (c : Option ℕ). fire (readable n) (state t (marking n.places counts) (timers_of ats owners ring) (drawn (words ws))) c)
      (choice ∙ ap (λ (y : Float). chosen (mul binary64 y a0) xs) value))
      e

  pub race_none : (many : ℕ) → o ≡ none → many ≡ tokens_of (after counts)
      → EventBy (raced (readable n) (state_of n counts ats owners ring t ws) a0 xs) (after counts) many true
  race_none many h all =
      races (after counts) many true
      (happens (record { what = []; leaves = after counts }) (ap (λ (c : Option ℕ). fire (readable n) (after counts) c) h) refl all)

  module _ (j : ℕ) (h : o ≡ some j) where
    fires : (counts' : List ℕ) (many : ℕ) (r : Bool) → PutBy r (move (readable n) (marking n.places counts) (fired j)) (marking n.places counts')
        → (r ≡ true → many ≡ tokens_of (after counts')) → EventBy (raced (readable n) (state_of n counts ats owners ring t ws) a0 xs) (after counts') many r
    fires counts' many r p all =
        races (after counts') many r
        (subst (λ (c : Option ℕ). EventBy (fire (readable n) (after counts) c) (after counts') many r) (sym h)
        (event_by (readable n) (after counts) (fired j) (timers_of ats owners ring) (words ws') r (marking n.places counts') (after counts') many p refl all))

    pub race_at : j < n.transitions → (counts' : List ℕ) (many : ℕ) (r : Bool)
        → PutBy r (putting (taking (marking n.places counts) (takes_of (slots_of n j))) (arcs_of is_put (slots_of n j))) (marking n.places counts')
        → (r ≡ true → many ≡ tokens_of (after counts')) → EventBy (raced (readable n) (state_of n counts ats owners ring t ws) a0 xs) (after counts') many r
    race_at i counts' many r p all =
        fires counts' many r
        (subst (λ (y : Transition). PutBy r (putting (taking (marking n.places counts) y.takes) y.puts) (marking n.places counts')) (sym (transition_at n j i)) p)
        all

    pub race_past : (many : ℕ) → n.transitions ≤ j → Counts counts → many ≡ tokens_of (after counts)
        → EventBy (raced (readable n) (state_of n counts ats owners ring t ws) a0 xs) (after counts) many true
    race_past many i c all =
        fires counts many true
        (subst (λ (y : Transition). PutBy true (putting (taking (marking n.places counts) y.takes) y.puts) (marking n.places counts)) (sym (transition_past n j i))
        (put_none n.places counts c))
        (λ e. all)

-- which of the two it is
module _ (n : NetRecord) (s : State) (a0 : Float) (props : List Float) (u : State) (x : Perhaps Change) where
  pub event_completes : {b : Bool} → b ≡ true → ChangedBy (complete (readable n) s) u x → ChangedBy (event_of n s a0 props b) u x
  event_completes e h = subst (λ (c : Bool). ChangedBy (event_of n s a0 props c) u x) (sym e) h

  pub event_races : {b : Bool} → b ≡ false → ChangedBy (raced (readable n) s a0 (take n.transitions props)) u x → ChangedBy (event_of n s a0 props b) u x
  event_races e h = subst (λ (c : Bool). ChangedBy (event_of n s a0 props c) u x) (sym e) h

-- the generator that an event leaves: a race has drawn
abbrev left_by : Generator → Answer Event → Generator
left_by g (refused c) = g
left_by g (given e) = e.leaves.generator

event_drawn : (n : Net) (s : State) (e : Entry) (q : List Timer) (g : Generator) (this : Event) → event n s e q g ≡ given this → this.leaves.generator ≡ g
event_drawn n s e q g this h = go (counts_fit (move n s.counts e)) h
  where
    go : (b : Bool) → pick b (given (record { what = e ∷ []; leaves = state s.clock (move n s.counts e) q g })) (refused Refusal.count_too_large) ≡ given this
        → this.leaves.generator ≡ g
    go true h = sym (ap (left_by g) h)
    go false h = absurd (let z : ◌≡◌ {A = ℕ} 0 1 = cc in omega arith)

fire_drawn : (n : Net) (s : State) (o : Option ℕ) (this : Event) → fire n s o ≡ given this → this.leaves.generator ≡ s.generator
fire_drawn n s none this h = sym (ap (left_by s.generator) h)
fire_drawn n s (some j) this h = event_drawn n s (fired j) s.timers s.generator this h

pub drawn_after : (n : NetRecord) (s : State) (a0 : Float) (props : List Float) (b : Bool) (u : State) (many : ℕ) (r : Bool) → EventBy (event_of n s a0 props b) u many r → r ≡ true
    → u.generator ≡ pick b s.generator (drawn s.generator)
drawn_after n s a0 props b u many false h t = absurd (true≢false (sym t))
drawn_after n s a0 props true u many true (happens e is leaves all) t = ap (λ (x : State). x.generator) (sym leaves) ∙ event_drawn (readable n) s (completed (first s.timers).who) (others s.timers) s.generator e is
drawn_after n s a0 props false u many true (happens e is leaves all) t = ap (λ (x : State). x.generator) (sym leaves) ∙ fire_drawn (readable n) (state s.clock s.counts s.timers (drawn s.generator)) (chosen (mul binary64 (uniform s.generator) a0) (take n.transitions props)) e is

-- ---- up to the clock reading

-- where nothing is left no timer runs, and the total is not above 0
left : (a0 t dt : Float) (q : List Timer) → nothing_left ≡ next a0 t dt q → (q ≡ []) × (le a0 zero64 ≡ true)
left a0 t dt [] h = (refl, go (le a0 zero64) h)
  where
    go : (b : Bool) → nothing_left ≡ pick b nothing_left (race dt) → b ≡ true
    go true e = refl
    go false e = absurd (let z : ◌≡◌ {A = ℕ} 0 1 = cc in omega arith)
left a0 t dt (y ∷ ys) h = go (le y.at (add binary64 t dt)) h
  where
    go : (b : Bool) → nothing_left ≡ pick b (completion y.at) (race dt) → (y ∷ ys ≡ []) × (le a0 zero64 ≡ true)
    go true e = absurd (let z : ◌≡◌ {A = ℕ} 0 1 = cc in omega arith)
    go false e = absurd (let z : ◌≡◌ {A = ℕ} 0 1 = cc in omega arith)

went : (n : Net) (js : List ℕ) (t : Float) (m : Marking) (q : List Timer) (g : Generator) (ps : List Float) (sum : Float) (rounds : Bool) (xs : List Float) (a0 : Float)
    (rounded : Bool) (dt : Float) (h : Generator) (x : Next)
    → xs ≡ ps → a0 ≡ sum → rounded ≡ rounds → dt ≡ waiting a0 g → h ≡ drawn_for a0 g → x ≡ next a0 t dt q
    → go_on n rounds js (state t m q (drawn_for sum g)) sum ps (next sum t (waiting sum g) q) ≡ go_on n rounded js (state t m q h) a0 xs x
went n js t m q g ps sum rounds xs a0 rounded dt h x each all adds wait draws comes = rw (each, adds, comes, draws, wait, all)

-- the step after the starts: it goes on to x; where that is nothing the state is that before
pub record Going (room : ℕ) (n : NetRecord) (before : State) (counts : List ℕ) (ats : List Float) (owners : List ℕ) (ring : Ring) (props : List Float) (a0 : Float) (rounded : Bool) (ws : List ℕ) (x : Next) : Type 0 where
  pub who : List ℕ
  pub is : step room (readable n) before ≡ given (go_on (readable n) rounded who (state_of n counts ats owners ring before.clock ws) a0 (take n.transitions props) x)
  pub same : x ≡ nothing_left → state_of n counts ats owners ring before.clock ws ≡ before

module _ (room : ℕ) (n : NetRecord) (before : State) (counts : List ℕ) (ats : List Float) (owners : List ℕ) (ring : Ring) {any : Bool}
    (s : Begun (starts room (readable n) before) (marking n.places counts) (timers_of ats owners ring) any) where
  pub going : length before.timers ≤ room → (props : List Float) (a0 : Float) (rounded : Bool) → Totalled n counts props a0 → rounded ≡ adds_rounded (readable n) (marking n.places counts) → (dt : Float) (ws : List ℕ)
      → dt ≡ waiting a0 before.generator → words ws ≡ drawn_for a0 before.generator → (x : Next) → x ≡ next a0 before.clock dt (timers_of ats owners ring)
      → Going room n before counts ats owners ring props a0 rounded ws x
  going few props a0 rounded all adds dt ws wait draws x comes =
      record {
        who = s.who;
        is = ap (after_starts (readable n) before) s.is
            ∙ ap given
            (went (readable n) s.who before.clock m q before.generator ps (total ps) (adds_rounded (readable n) m) (take n.transitions props) a0
            rounded dt (words ws) x all.each all.all adds wait draws comes);
        same = as_before s.who s.is;
      }
    where
      m : Marking
      m = marking n.places counts

      q : List Timer
      q = timers_of ats owners ring

      ps : List Float
      ps = propensities (readable n) m

      as_before : (who : List ℕ) → starts room (readable n) before ≡ given (record { who = who; counts = m; timers = q }) → x ≡ nothing_left
          → state before.clock m q (words ws) ≡ before
      as_before who e z =
          let l = left a0 before.clock dt q (sym z ∙ comes) in
          let u = still_same room (readable n) before few (record { who = who; counts = m; timers = q }) e l.0 in
          ap (λ (y : Marking). state before.clock y q (words ws)) u.0
          ∙ ap (λ (y : List Timer). state before.clock before.counts y (words ws)) (l.0 ∙ sym u.1)
          ∙ ap (λ (y : Generator). state before.clock before.counts before.timers y) (draws ∙ not_drawn a0 before.generator l.1)

-- where a timer could not start the step is refused
pub advance_full : (room : ℕ) (n : NetRecord) (before : State) → NoRoom (starts room (readable n) before) → step room (readable n) before ≡ refused Refusal.too_many_timers
advance_full room n before e = ap (after_starts (readable n) before) e

module _ {room : ℕ} {n : NetRecord} {before : State} {counts : List ℕ} {ats : List Float} {owners : List ℕ} {ring : Ring} {props : List Float} {a0 : Float} {rounded : Bool} {ws : List ℕ}
    {x : Next} (w : Going room n before counts ats owners ring props a0 rounded ws x) where
  at_next : (y : Next) → x ≡ y
      → step room (readable n) before ≡ given (go_on (readable n) rounded w.who (state_of n counts ats owners ring before.clock ws) a0 (take n.transitions props) y)
  at_next y e =
      w.is ∙ ap (λ (z : Next). given (go_on (readable n) rounded w.who (state_of n counts ats owners ring before.clock ws) a0 (take n.transitions props) z)) e

  pub advance_nothing : x ≡ nothing_left → AdvancedBy n (step room (readable n) before) before (state_of n counts ats owners ring before.clock ws) props a0 rounded false Nothing
  advance_nothing e = Stepping.nothing (at_next nothing_left e) (w.same e)

  pub advance_race : (d : Float) → x ≡ race d
      → AdvancedBy n (step room (readable n) before) before (state_of n counts ats owners ring (add binary64 before.clock d) ws) props a0 rounded false Follows
  advance_race d e = Stepping.event w.who (at_next (race d) e)

  pub advance_completion : (d : Float) → x ≡ completion d → AdvancedBy n (step room (readable n) before) before (state_of n counts ats owners ring d ws) props a0 rounded true Follows
  advance_completion d e = Stepping.event w.who (at_next (completion d) e)

-- ---- the whole step

never : {A : Type 0} → ◌≡◌ {A = ℕ} 0 1 → A
never z = absurd (omega arith)

-- the clock is set, which gives the state u, and e follows
pub record Sets (spec : Answer Step) (rounded : Bool) (u : State) (e : Answer Event) : Type 0 where
  pub who : List ℕ
  pub is : spec ≡ given (sets rounded who u e)

module _ {n : NetRecord} {spec : Answer Step} {before u : State} {props : List Float} {a0 : Float} {rounded completes : Bool} where
  pub if_nothing : {d : Due} → AdvancedBy n spec before u props a0 rounded completes d → d ≡ Nothing → (spec ≡ given (still rounded)) × (u ≡ before)
  if_nothing (Stepping.nothing h k) e = (h, k)
  if_nothing (Stepping.event js h) e = never (cc)

  pub if_event : {d : Due} → AdvancedBy n spec before u props a0 rounded completes d → d ≡ Follows → Sets spec rounded u (event_of n u a0 props completes)
  if_event (Stepping.nothing h k) e = never (cc)
  if_event (Stepping.event js h) e = record { who = js; is = h }

module _ {spec : Answer Step} {rounded : Bool} {u : State} {e : Answer Event} (w : Sets spec rounded u e) {before : State} {last : Float} {shows : State → Type 0} {same : Type 0}
    {most most' many : ℕ} where
  pub step_reached : lt last u.clock ≡ true → shows u → most' ≡ most → StepBy spec before last shows same most most' many u rounded Reached
  step_reached t h m = Stepping.reached w.who e w.is t h m

  pub step_on : lt last u.clock ≡ false → shows u → most' ≡ max most many → {s : State} {b : Bool} → EventBy e s many b → b ≡ true
      → StepBy spec before last shows same most most' many s rounded GoesOn
  step_on t h m (happens v a l k) z = Stepping.goes_further w.who u v (w.is ∙ ap (λ (x : Answer Event). given (sets rounded w.who u x)) a) t h l k m
  step_on t h m (too_large a) z = absurd (true≢false (sym z))

  pub step_large : lt last u.clock ≡ false → {s s' : State} {none : ℕ} {b : Bool} → EventBy e s none b → b ≡ false
      → StepBy spec before last shows same most most' many s' rounded (Refused CountTooLarge)
  step_large t (happens v a l k) z = absurd (true≢false z)
  step_large t (too_large a) z = Stepping.putting w.who u (w.is ∙ ap (λ (x : Answer Event). given (sets rounded w.who u x)) a) t

-- the rules' next looks at the first timer, where one runs
pub told : (ats : List Float) (owners : List ℕ) (ring : Ring) (k : ℕ) (x : TimerStruct) → k ≡ running ring → timer_of x ≡ first (timers_of ats owners ring)
    → Told (timers_of ats owners ring) k x.at
told ats owners ring k x e f = record { many = length_timers ats owners ring ∙ sym e; leads = λ h. ap (λ (y : Timer). y.at) (sym f) }

-- the starts of a step leave the tokens as they are
pub tokens_stay : (room : ℕ) (n : NetRecord) → Tidy n → (before u : State) {rounded : Bool} {e : Answer Event} → Sets (step room (readable n) before) rounded u e
    → tokens_of u ≡ tokens_of before
tokens_stay room n t before u {rounded} {e} w =
    sets_tokens (readable n) (once_each (readable n) t.once) before w.who u e
    (subst (λ (r : Answer Step). StepGood (readable n) before r) w.is (step_good room (readable n) before))
