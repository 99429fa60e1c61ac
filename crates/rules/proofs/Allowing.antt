-- Theory for demand 3 and orders 2, 7 and 8: in every step each transition that starts or fires is enabled just then, each that starts is delayed,
-- each completion is that of the first running timer, and the clock, counts and timers of each state are what the entries so far replay. No
-- hypothesis about the net. For runs see Runs.
use Prim.Native.Nat.{ℕ, zero, suc, ◌<◌}
use mathlib.Core.Path.{◌≡◌, refl, sym, ap, ◌∙◌, subst}
use mathlib.Core.Bool.{Bool, true, false, ◌&&◌}
use mathlib.Core.Logic.{◌⊎◌, inl, inr}
use mathlib.Core.List.{List, [], ◌∷◌, ◌++◌, map}
use mathlib.Core.Option.{Option, none, some}
use native.Mathlib.Omega.{arith}
use lib.Dec.{ltb}
use lib.ListN.{get_or, length, drop}
use lib.Ieee.{Float, binary64, add, mul, of_bits, lt, le}
use Rattle.net.specs.Net.{Transition, Net, Marking, pick, zero64, timed, rate_of}
use Rattle.rules.specs.Enabled.{enabled}
use Rattle.rules.specs.Propensity.{propensity, propensities, factored, total}
use Rattle.rules.specs.Exact.{adds_rounded}
use Rattle.rng.specs.State.{State as Generator}
use Rattle.rng.specs.Xoshiro.{step as drawn, uniform}
use Rattle.rules.specs.Jump.{chosen_from, chosen}
use Rattle.rules.specs.Timers.{Timer, timer_of, insert, first, others}
use Rattle.rules.specs.Moves.{Entry, reading, started, completed, fired, without_arcs, transition, taking, move, after}
use Rattle.rules.specs.Step.{State, state, Answer, refused, given, Starts, preceded, pass, nobody, unless_none, passes, starts, waiting, drawn_for, Next, nothing_left, race, completion, next, Event, counts_fit, event, complete, fire, raced, Step, still, sets, set_clock, go_on, after_starts, step}
use Rattle.rules.specs.Moments.{Moment, moment, happen, moment_after}
use Rattle.rules.proofs.Order.{never, both}
use Rattle.rules.specs.Demand3.{Ready, Allowed, EachAllowed}

-- ---- answers

pub given_same : {A : Type 0} {a b : A} → given a ≡ given b → a ≡ b
given_same p = cc

pub refused_given : {A B : Type 0} {c : ℕ} {a : A} → ◌≡◌ {A = Answer A} (refused c) (given a) → B
refused_given p = absurd (let z : ◌≡◌ {A = ℕ} 0 1 = cc in omega arith)

-- ---- entries that lead from moment to moment, each start and firing enabled and each start and completion due at its turn

-- the first of the running timers is one of transition j
abbrev pub FirstIs : List Timer → ℕ → Type 0
FirstIs [] j = ⊥
FirstIs (z ∷ q) j = z.who ≡ j

-- a start is of a delayed transition, a completion of the first timer
abbrev pub Due : Net → Moment → Entry → Type 0
Due n x (reading t) = Unit
Due n x (started j) = timed (transition n j) ≡ true
Due n x (completed j) = FirstIs x.timers j
Due n x (fired j) = Unit

abbrev pub EachDue : Net → Moment → List Entry → Type 0
EachDue n x [] = Unit
EachDue n x (e ∷ es) = Due n x e × EachDue n (happen n x e) es

pub record Leads (n : Net) (x : Moment) (es : List Entry) (y : Moment) : Type 0 where
  pub allowed : EachAllowed n x.counts es
  pub due : EachDue n x es
  pub to : moment_after n x es ≡ y

pub after_append : (n : Net) (m : Marking) (es fs : List Entry) → after n m (es ++ fs) ≡ after n (after n m es) fs
after_append n m [] fs = refl
after_append n m (e ∷ es) fs = after_append n (move n m e) es fs

pub moment_append : (n : Net) (x : Moment) (es fs : List Entry) → moment_after n x (es ++ fs) ≡ moment_after n (moment_after n x es) fs
moment_append n x [] fs = refl
moment_append n x (e ∷ es) fs = moment_append n (happen n x e) es fs

-- the counts of a moment are those that the entries lead to
pub moment_counts : (n : Net) (x : Moment) (es : List Entry) → (moment_after n x es).counts ≡ after n x.counts es
moment_counts n x [] = refl
moment_counts n x (e ∷ es) = moment_counts n (happen n x e) es

pub leads_counts : {n : Net} {x y : Moment} {es : List Entry} → Leads n x es y → after n x.counts es ≡ y.counts
leads_counts {n} {x} {y} {es} h = sym (moment_counts n x es) ∙ ap (λ (z : Moment). z.counts) h.to

allowed_append : (n : Net) (m : Marking) (es fs : List Entry) → EachAllowed n m es → EachAllowed n (after n m es) fs → EachAllowed n m (es ++ fs)
allowed_append n m [] fs a b = b
allowed_append n m (e ∷ es) fs a b = (a.0, allowed_append n (move n m e) es fs a.1 b)

due_append : (n : Net) (x : Moment) (es fs : List Entry) → EachDue n x es → EachDue n (moment_after n x es) fs → EachDue n x (es ++ fs)
due_append n x [] fs a b = b
due_append n x (e ∷ es) fs a b = (a.0, due_append n (happen n x e) es fs a.1 b)

pub leads_on : {n : Net} {x y z : Moment} {es fs : List Entry} → Leads n x es y → Leads n y fs z → Leads n x (es ++ fs) z
leads_on {n} {x} {y} {z} {es} {fs} a b = record {
  allowed = allowed_append n x.counts es fs a.allowed (rw (leads_counts a) b.allowed);
  due = due_append n x es fs a.due (rw a.to b.due);
  to = moment_append n x es fs ∙ rw a.to b.to;
}

pub leads_none : (n : Net) (x : Moment) → Leads n x [] x
leads_none n x = record { allowed = tt; due = tt; to = refl }

-- ---- passes

drop_here : (l : List Transition) (j : ℕ) (this : Transition) (rest : List Transition) → drop j l ≡ this ∷ rest
    → (j < length l) × (get_or l j without_arcs ≡ this) × (drop (suc j) l ≡ rest)
drop_here [] zero this rest p = absurd (let z : ◌≡◌ {A = ℕ} 0 1 = cc in omega arith)
drop_here [] (suc j) this rest p = absurd (let z : ◌≡◌ {A = ℕ} 0 1 = cc in omega arith)
drop_here (x ∷ xs) zero this rest p = (omega arith, cc, cc)
drop_here (x ∷ xs) (suc j) this rest p =
    let w : (j < length xs) × (get_or xs j without_arcs ≡ this) × (drop (suc j) xs ≡ rest) = drop_here xs j this rest p in
    (omega arith, w.1, w.2)

started_append : (is js : List ℕ) → map started (is ++ js) ≡ map started is ++ map started js
started_append [] js = refl
started_append (i ∷ is) js = ap (λ (l : List Entry). started i ∷ l) (started_append is js)

module _ (room : ℕ) (n : Net) (t : Float) where
  abbrev at_clock : Marking → List Timer → Moment
  at_clock m q = record { clock = t; counts = m; timers = q }

  -- what starts at the clock t lead to, where there is no refusal
  Led : Marking → List Timer → Answer Starts → Type 0
  Led m q r = (b : Starts) → r ≡ given b → Leads n (at_clock m q) (map started b.who) (at_clock b.counts b.timers)

  led_given : (m : Marking) (q : List Timer) (s : Starts) → Leads n (at_clock m q) (map started s.who) (at_clock s.counts s.timers) → Led m q (given s)
  unfolding Led
  led_given m q s h b e =
      subst (λ (x : Starts). Leads n (at_clock m q) (map started x.who) (at_clock x.counts x.timers)) (given_same e) h

  led_refused : (m : Marking) (q : List Timer) (c : ℕ) → Led m q (refused c)
  unfolding Led
  led_refused m q c b e = refused_given e

  led_preceded : (m m' : Marking) (q q' : List Timer) (js : List ℕ) (r : Answer Starts) → Leads n (at_clock m q) (map started js) (at_clock m' q') → Led m' q' r
      → Led m q (preceded js r)
  led_preceded m m' q q' js (refused c) h k = led_refused m q c
  led_preceded m m' q q' js (given s) h k =
      led_given m q _ (rw (started_append js s.who) (leads_on h (unfold Led in k s refl)))

  pass_leads : (rest : List Transition) (j : ℕ) (m : Marking) (q : List Timer) → drop j n.transitions ≡ rest → Led m q (pass room n t j rest m q)
  pass_leads [] j m q d = led_given m q _ (leads_none n _)
  pass_leads (this ∷ rest) j m q d =
      go (timed this && enabled n m this) refl (ltb (length q) room) (pass_leads rest (suc j) m q w.2)
      (pass_leads rest (suc j) (taking m this.takes) (insert timer q) w.2)
    where
      timer : Timer
      timer = timer_of t j this

      w : (j < length n.transitions) × (transition n j ≡ this) × (drop (suc j) n.transitions ≡ rest)
      w = drop_here n.transitions j this rest d

      one : (timed this ≡ true) × (enabled n m this ≡ true) → Leads n (at_clock m q) (started j ∷ []) (at_clock (taking m this.takes) (insert timer q))
      one e = record { allowed = ((w.0, rw w.1 e.1), tt); due = (rw w.1 e.0, tt); to = rw w.1 }

      go : (c : Bool) → timed this && enabled n m this ≡ c → (d : Bool)
          → Led m q (pass room n t (suc j) rest m q)
          → Led (taking m this.takes) (insert timer q) (pass room n t (suc j) rest (taking m this.takes) (insert timer q))
          → Led m q (pick c (pick d (preceded (j ∷ []) (pass room n t (suc j) rest (taking m this.takes) (insert timer q))) (refused 15)) (pass room n t (suc j) rest m q))
      go false e d a b = a
      go true e false a b = led_refused m q 15
      go true e true a b = led_preceded m (taking m this.takes) q (insert timer q) (j ∷ []) _ (one (both (timed this) (enabled n m this) e)) b

  passes_lead : (k : ℕ) (m : Marking) (q : List Timer) → Led m q (passes k room n t m q)
  passes_lead zero m q = led_given m q _ (leads_none n _)
  passes_lead (suc k) m q = go (pass room n t 0 n.transitions m q) (pass_leads n.transitions 0 m q refl) (λ m' q'. passes_lead k m' q')
    where
      go : (r : Answer Starts) → Led m q r → ((m' : Marking) (q' : List Timer) → Led m' q' (passes k room n t m' q')) → Led m q (unless_none (passes k room n t) r)
      go (refused c) h ih = led_refused m q c
      go (given s) h ih = last (nobody s.who)
        where
          last : (c : Bool) → Led m q (pick c (given s) (preceded s.who (passes k room n t s.counts s.timers)))
          last true = h
          last false = led_preceded m s.counts q s.timers s.who _ (unfold Led in h s refl) (ih s.counts s.timers)

  pub starts_lead : (m : Marking) (q : List Timer) (b : Starts) → passes (suc room) room n t m q ≡ given b
      → Leads n (record { clock = t; counts = m; timers = q }) (map started b.who) (record { clock = t; counts = b.counts; timers = b.timers })
  unfolding Led
  starts_lead m q = passes_lead (suc room) m q

-- ---- the jump: what is chosen is enabled

positive_enabled : (n : Net) (m : Marking) (this : Transition) → lt zero64 (propensity n m this) ≡ true → enabled n m this ≡ true
unfolding lt of_bits
positive_enabled n m this = go (enabled n m this) (factored m (rate_of this) this.takes)
  where
    go : (c : Bool) (a : Float) → lt zero64 (pick c a zero64) ≡ true → c ≡ true
    go true a p = refl
    go false a p = never p

module _ (n : Net) (m : Marking) where
  chosen_from_lem : (rest : List Transition) (j : ℕ) → drop j n.transitions ≡ rest → (r sum : Float) (last : Option ℕ) (i : ℕ)
      → chosen_from r sum j last (map (propensity n m) rest) ≡ some i → (last ≡ some i) ⊎ Ready n m i
  chosen_from_lem [] j d r sum last i p = inl p
  chosen_from_lem (this ∷ rest) j d r sum last i p =
      go (lt zero64 (propensity n m this)) (le r (add binary64 sum (propensity n m this))) refl p (λ l q. chosen_from_lem rest (suc j) w.2 r _ l i q)
    where
      w : (j < length n.transitions) × (transition n j ≡ this) × (drop (suc j) n.transitions ≡ rest)
      w = drop_here n.transitions j this rest d

      ready : lt zero64 (propensity n m this) ≡ true → some j ≡ some i → Ready n m i
      ready e q =
          let h : j ≡ i = cc in
          subst (λ (x : ℕ). Ready n m x) h (w.0, rw w.1 (positive_enabled n m this e))

      go : (c d : Bool) → lt zero64 (propensity n m this) ≡ c
          → pick (c && d) (some j) (chosen_from r (add binary64 sum (propensity n m this)) (suc j) (pick c (some j) last) (map (propensity n m) rest)) ≡ some i
          → ((l : Option ℕ) → chosen_from r (add binary64 sum (propensity n m this)) (suc j) l (map (propensity n m) rest) ≡ some i → (l ≡ some i) ⊎ Ready n m i)
          → (last ≡ some i) ⊎ Ready n m i
      go true true e q ih = inr (ready e q)
      go false d e q ih = ih last q
      go true false e q ih = found (ih (some j) q)
        where
          found : (some j ≡ some i) ⊎ Ready n m i → (last ≡ some i) ⊎ Ready n m i
          found (inl h) = inr (ready e h)
          found (inr h) = inr h

  pub chosen_ready : (r : Float) (i : ℕ) → chosen r (propensities n m) ≡ some i → Ready n m i
  chosen_ready r i p = go (chosen_from_lem n.transitions 0 refl r zero64 none i p)
    where
      go : (none ≡ some i) ⊎ Ready n m i → Ready n m i
      go (inl h) = absurd (let z : ◌≡◌ {A = ℕ} 0 1 = cc in omega arith)
      go (inr h) = h

-- ---- one step

-- what an event is: a completion, a firing, or nothing
pub data Lone : List Entry → Type 0 where
  no_entry : Lone []
  one_completion : (j : ℕ) → Lone (completed j ∷ [])
  one_firing : (j : ℕ) → Lone (fired j ∷ [])

-- an event that is not refused
pub record Ends (n : Net) (u : State) (ev : Event) : Type 0 where
  pub lone : Lone ev.what
  pub leads : Leads n (moment u) ev.what (moment ev.leaves)
  pub clock : ev.leaves.clock ≡ u.clock

abbrev pub EventGood : Net → State → Answer Event → Type 0
EventGood n u (refused c) = Unit
EventGood n u (given ev) = Ends n u ev

pub record Stepping (n : Net) (s : State) (js : List ℕ) (u : State) (e : Answer Event) : Type 0 where
  pub starts : Leads n (moment s) (map started js) (record { clock = s.clock; counts = u.counts; timers = u.timers })
  pub event : EventGood n u e

abbrev pub StepGood : Net → State → Answer Step → Type 0
StepGood n s (refused c) = Unit
StepGood n s (given (still b)) = Unit
StepGood n s (given (sets b js u e)) = Stepping n s js u e

-- an event whose entry is allowed and due, and leaves these timers
event_good : (n : Net) (u : State) (e : Entry) (q : List Timer) (g : Generator) → Lone (e ∷ []) → Allowed n u.counts e → Due n (moment u) e
    → happen n (moment u) e ≡ record { clock = u.clock; counts = move n u.counts e; timers = q } → EventGood n u (event n u e q g)
event_good n u e q g l a d h = go (counts_fit (move n u.counts e))
  where
    go : (c : Bool) → EventGood n u (pick c (given (record { what = e ∷ []; leaves = state u.clock (move n u.counts e) q g })) (refused 14))
    go true = record { lone = l; leads = record { allowed = (a, tt); due = (d, tt); to = h }; clock = refl }
    go false = tt

fire_good : (n : Net) (u : State) (o : Option ℕ) → ((i : ℕ) → o ≡ some i → Ready n u.counts i) → EventGood n u (fire n u o)
fire_good n u none h = record { lone = no_entry; leads = leads_none n (moment u); clock = refl }
fire_good n u (some j) h = event_good n u (fired j) u.timers u.generator (one_firing j) (h j refl) tt refl

-- the draw of x2 changes neither counts, timers nor clock
drawing_good : (n : Net) (u : State) (g : Generator) (e : Answer Event) → EventGood n (state u.clock u.counts u.timers g) e → EventGood n u e
drawing_good n u g (refused c) h = tt
drawing_good n u g (given ev) h = record { lone = h.lone; leads = h.leads; clock = h.clock }

raced_good : (n : Net) (u : State) (a0 : Float) → EventGood n u (raced n u a0 (propensities n u.counts))
raced_good n u a0 =
    let v : State = state u.clock u.counts u.timers (drawn u.generator) in
    let o : Option ℕ = chosen (mul binary64 (uniform u.generator) a0) (propensities n u.counts) in
    drawing_good n u (drawn u.generator) (fire n v o) (fire_good n v o (λ i p. chosen_ready n u.counts _ i p))

complete_good : (n : Net) (u : State) → FirstIs u.timers (first u.timers).who → EventGood n u (complete n u)
complete_good n u d =
    event_good n u (completed (first u.timers).who) (others u.timers) u.generator (one_completion (first u.timers).who) tt d refl

-- a completion is of the first timer, at its time
pub next_completion : (a0 t dt : Float) (q : List Timer) (at : Float) → next a0 t dt q ≡ completion at → (x : Timer) × (xs : List Timer) × (q ≡ x ∷ xs) × (x.at ≡ at)
next_completion a0 t dt [] at p = go (le a0 zero64) p
  where
    go : (c : Bool) → pick c nothing_left (race dt) ≡ completion at → (x : Timer) × (xs : List Timer) × ([] ≡ x ∷ xs) × (x.at ≡ at)
    go true p = absurd (let z : ◌≡◌ {A = ℕ} 0 1 = cc in omega arith)
    go false p = absurd (let z : ◌≡◌ {A = ℕ} 0 1 = cc in omega arith)
next_completion a0 t dt (x ∷ xs) at p = go (le x.at (add binary64 t dt)) p
  where
    go : (c : Bool) → pick c (completion x.at) (race dt) ≡ completion at → (y : Timer) × (ys : List Timer) × (x ∷ xs ≡ y ∷ ys) × (y.at ≡ at)
    go true p = (x, xs, refl, (cc))
    go false p = absurd (let z : ◌≡◌ {A = ℕ} 0 1 = cc in omega arith)

-- so where a completion comes next a timer runs
next_first : (a0 t dt : Float) (q : List Timer) (at : Float) → next a0 t dt q ≡ completion at → FirstIs q (first q).who
next_first a0 t dt [] at p = let w = (next_completion a0 t dt [] at p).2 in absurd (let z : ◌≡◌ {A = ℕ} 0 1 = cc in omega arith)
next_first a0 t dt (z ∷ q) at p = refl

module _ (n : Net) (s : State) (b : Bool) (js : List ℕ) (v : State) (a0 : Float)
    (h : Leads n (moment s) (map started js) (record { clock = s.clock; counts = v.counts; timers = v.timers })) where
  go_on_good : (x : Next) → ((at : Float) → x ≡ completion at → FirstIs v.timers (first v.timers).who)
      → StepGood n s (given (go_on n b js v a0 (propensities n v.counts) x))
  go_on_good nothing_left f = tt
  go_on_good (race dt) f = record { starts = h; event = raced_good n (set_clock (add binary64 v.clock dt) v) a0 }
  go_on_good (completion at) f = record { starts = h; event = complete_good n (set_clock at v) (f at refl) }

pub step_good : (room : ℕ) (n : Net) (s : State) → StepGood n s (step room n s)
step_good room n s = go (starts room n s) (λ b p. starts_lead room n s.clock s.counts s.timers b p)
  where
    go : (r : Answer Starts)
        → ((b : Starts) → r ≡ given b → Leads n (moment s) (map started b.who) (record { clock = s.clock; counts = b.counts; timers = b.timers }))
        → StepGood n s (after_starts n s r)
    go (refused c) h = tt
    go (given b) h =
        let a0 : Float = total (propensities n b.counts) in
        let v : State = state s.clock b.counts b.timers (drawn_for a0 s.generator) in
        go_on_good n s (adds_rounded n b.counts) b.who v a0 (h b refl) (next a0 s.clock (waiting a0 s.generator) b.timers)
        (next_first a0 s.clock (waiting a0 s.generator) b.timers)

-- ---- up to the clock reading

pub leads_reading : (n : Net) (x : Moment) (t : Float) → Leads n x (reading t ∷ []) (record { clock = t; counts = x.counts; timers = x.timers })
leads_reading n x t = record { allowed = (tt, tt); due = (tt, tt); to = refl }

-- what happens in a step up to its clock reading
pub up_to_reading : {n : Net} {s : State} {js : List ℕ} {u : State} {e : Answer Event} → Stepping n s js u e
    → Leads n (moment s) (map started js ++ reading u.clock ∷ []) (moment u)
up_to_reading {n} {s} {js} {u} g = leads_on g.starts (leads_reading n _ u.clock)
