-- Laws of every run, from any state: proved case by case of its first step. It takes at most the steps that it is allowed, and exactly so many where
-- it ends because they are done; each start and firing in it is enabled just then, and the states that it goes through are what its entries replay;
-- and a run of more steps is a run of fewer, halted, and one from there on. No hypothesis about the net.
use Prim.Native.Nat.{ℕ, zero, suc, ◌+◌, ◌-◌, ◌≤◌}
use mathlib.Core.Path.{◌≡◌, refl, sym, ap, ◌∙◌, subst}
use mathlib.Core.Bool.{Bool, true, false}
use mathlib.Core.Logic.{◌⊎◌, inl, inr, ◌≢◌}
use mathlib.Core.List.{List, [], ◌∷◌, ◌++◌, map, append-nil, append_assoc}
use native.Mathlib.Omega.{arith}
use lib.Ieee.{Float, lt}
use Rattle.net.specs.Net.{Net, pick}
use Rattle.rules.specs.Moves.{Entry, reading, started, after}
use Rattle.rules.specs.Moments.{Moment, moment, moment_after}
use Rattle.rules.specs.Step.{State, Answer, refused, given, Event, Step, still, sets, step}
use Rattle.rules.specs.Run.{End, quiet, spent, reached, halted, Run, ends, refuses, steps, concluded, stepped, run_within, Outcome, outcome, steps_of, rounded_of, entries}
use Rattle.rules.specs.Demand3.{EachAllowed}
use Rattle.rules.proofs.Allowing.{given_same, refused_given, EachDue, moment_counts, Leads, leads_on, leads_none, Stepping, StepGood, step_good, up_to_reading}

-- ---- a property of runs, by cases

-- what happens in a step up to the clock reading
abbrev pub up_to_clock : List ℕ → State → List Entry
up_to_clock js u = map started js ++ reading u.clock ∷ []

pub record Cases (out : End) (room : ℕ) (n : Net) (last : Float) (P : ℕ → State → Run → Type 0) : Type 0 where
  -- the clock is not below the last instant; or no further step is allowed
  pub over : (k : ℕ) (s : State) → lt s.clock last ≡ false → P k s (ends reached s)
  pub done : (s : State) → lt s.clock last ≡ true → P 0 s (ends out s)
  -- a step: its starts are refused, or nothing is left, or the clock is past the last instant, or its event is refused, or the run goes on
  pub no_start : (k : ℕ) (s : State) (c : ℕ) → step room n s ≡ refused c → P (suc k) s (refuses c)
  pub nothing : (k : ℕ) (s : State) (b : Bool) → lt s.clock last ≡ true → step room n s ≡ given (still b) → P (suc k) s (steps b [] (ends quiet s))
  pub past : (k : ℕ) (s : State) (b : Bool) (js : List ℕ) (u : State) (e : Answer Event) → step room n s ≡ given (sets b js u e) → lt last u.clock ≡ true
      → P (suc k) s (steps b (up_to_clock js u) (ends reached u))
  pub no_event : (k : ℕ) (s : State) (b : Bool) (js : List ℕ) (u : State) (c : ℕ) → step room n s ≡ given (sets b js u (refused c))
      → P (suc k) s (steps b (up_to_clock js u) (refuses c))
  pub goes_on : (k : ℕ) (s : State) (b : Bool) (js : List ℕ) (u : State) (ev : Event) (r : Run) → lt s.clock last ≡ true → step room n s ≡ given (sets b js u (given ev))
      → lt last u.clock ≡ false → P k ev.leaves r → P (suc k) s (steps b (up_to_clock js u ++ ev.what) r)

module _ (out : End) (room : ℕ) (n : Net) (last : Float) (P : ℕ → State → Run → Type 0) (w : Cases out room n last P) where
  pub each_run : (k : ℕ) (s : State) → P k s (run_within out room n last k s)
  each_run zero s = go (lt s.clock last) refl
    where
      go : (c : Bool) → lt s.clock last ≡ c → P 0 s (ends (pick c out reached) s)
      go true p = w.done s p
      go false p = w.over 0 s p
  each_run (suc k) s = below (lt s.clock last) refl (λ v. each_run k v)
    where
      one : lt s.clock last ≡ true → (r : Answer Step) → step room n s ≡ r → ((v : State) → P k v (run_within out room n last k v))
          → P (suc k) s (stepped last s r (run_within out room n last k))
      one l (refused c) q ih = w.no_start k s c q
      one l (given (still b)) q ih = w.nothing k s b l q
      one l (given (sets b js u e)) q ih = past (lt last u.clock) refl e q
        where
          past : (c : Bool) → lt last u.clock ≡ c → (e : Answer Event) → step room n s ≡ given (sets b js u e)
              → P (suc k) s (pick c (steps b (up_to_clock js u) (ends reached u)) (concluded b (up_to_clock js u) e (run_within out room n last k)))
          past true p e q = w.past k s b js u e q p
          past false p (refused c) q = w.no_event k s b js u c q
          past false p (given ev) q = w.goes_on k s b js u ev _ l q p (ih ev.leaves)

      below : (c : Bool) → lt s.clock last ≡ c → ((v : State) → P k v (run_within out room n last k v))
          → P (suc k) s (pick c (stepped last s (step room n s) (run_within out room n last k)) (ends reached s))
      below true p ih = one p (step room n s) refl ih
      below false p ih = w.over (suc k) s p

-- ---- ends

pub same_outcome : {e f : End} {s u : State} → ◌≡◌ {A = Answer Outcome} (given (record { end = e; left = s })) (given (record { end = f; left = u })) → (e ≡ f) × (s ≡ u)
same_outcome p = (ap (λ (o : Outcome). o.end) (given_same p), ap (λ (o : Outcome). o.left) (given_same p))

pub quiet_halted : {A : Type 0} → quiet ≡ halted → A
quiet_halted p = absurd (let z : ◌≡◌ {A = ℕ} 0 1 = cc in omega arith)

pub spent_halted : {A : Type 0} → spent ≡ halted → A
spent_halted p = absurd (let z : ◌≡◌ {A = ℕ} 0 1 = cc in omega arith)

pub reached_halted : {A : Type 0} → reached ≡ halted → A
reached_halted p = absurd (let z : ◌≡◌ {A = ℕ} 0 1 = cc in omega arith)

-- neither quiet nor reached: an end for when the steps are done
pub record Runs-out (out : End) : Type 0 where
  pub not_quiet : quiet ≢ out
  pub not_reached : reached ≢ out

pub spent_out : Runs-out spent
spent_out = record {
  not_quiet = λ p. let z : ◌≡◌ {A = ℕ} 0 1 = cc in omega arith;
  not_reached = λ p. let z : ◌≡◌ {A = ℕ} 0 1 = cc in omega arith;
}

pub halted_out : Runs-out halted
halted_out = record { not_quiet = λ p. quiet_halted p; not_reached = λ p. reached_halted p }

-- ---- steps

module _ (out : End) (room : ℕ) (n : Net) (last : Float) where
  pub steps_most : (k : ℕ) (s : State) → steps_of (run_within out room n last k s) ≤ k
  steps_most = each_run out room n last (λ k s r. steps_of r ≤ k) (record {
    over = λ k s p. omega arith;
    done = λ s p. omega arith;
    no_start = λ k s c q. omega arith;
    nothing = λ k s b p q. omega arith;
    past = λ k s b js u e q p. omega arith;
    no_event = λ k s b js u c q. omega arith;
    goes_on = λ k s b js u ev r l q p ih. omega arith;
  })

  -- "*Spent* exactly if the limit's last step is done …", and halted "once it has done that many and another would follow"
  pub out_steps : Runs-out out → (k : ℕ) (s : State) (o : Outcome) → outcome (run_within out room n last k s) ≡ given o → o.end ≡ out
      → (steps_of (run_within out room n last k s) ≡ k) × (lt o.left.clock last ≡ true)
  out_steps w = each_run out room n last (λ k s r. (o : Outcome) → outcome r ≡ given o → o.end ≡ out → (steps_of r ≡ k) × (lt o.left.clock last ≡ true)) (record {
    over = λ k s p o e z. absurd (w.not_reached (ap (λ (o : Outcome). o.end) (given_same e) ∙ z));
    done = λ s p o e z. (refl, subst (λ (o : Outcome). lt o.left.clock last ≡ true) (given_same e) p);
    no_start = λ k s c q o e z. refused_given e;
    nothing = λ k s b p q o e z. absurd (w.not_quiet (ap (λ (o : Outcome). o.end) (given_same e) ∙ z));
    past = λ k s b js u ev q p o e z. absurd (w.not_reached (ap (λ (o : Outcome). o.end) (given_same e) ∙ z));
    no_event = λ k s b js u c q o e z. refused_given e;
    goes_on = λ k s b js u ev r l q p ih o e z. (ap suc (ih o e z).0, (ih o e z).1);
  })

-- no more steps are rounded than are taken
pub rounded_most : (r : Run) → rounded_of r ≤ steps_of r
rounded_most (ends e s) = omega arith
rounded_most (refuses c) = omega arith
rounded_most (steps b es r) = go b (rounded_most r)
  where
    go : (b : Bool) → rounded_of r ≤ steps_of r → pick b 1 0 + rounded_of r ≤ suc (steps_of r)
    go true h = omega arith
    go false h = omega arith

-- a run that is to be spent is not halted
pub spent_unhalted : (room : ℕ) (n : Net) (last : Float) (k : ℕ) (s : State) (o : Outcome) → outcome (run_within spent room n last k s) ≡ given o → o.end ≢ halted
spent_unhalted room n last = each_run spent room n last (λ k s r. (o : Outcome) → outcome r ≡ given o → o.end ≢ halted) (record {
  over = λ k s p o e z. reached_halted (ap (λ (o : Outcome). o.end) (given_same e) ∙ z);
  done = λ s p o e z. spent_halted (ap (λ (o : Outcome). o.end) (given_same e) ∙ z);
  no_start = λ k s c q o e z. refused_given e;
  nothing = λ k s b p q o e z. quiet_halted (ap (λ (o : Outcome). o.end) (given_same e) ∙ z);
  past = λ k s b js u ev q p o e z. reached_halted (ap (λ (o : Outcome). o.end) (given_same e) ∙ z);
  no_event = λ k s b js u c q o e z. refused_given e;
  goes_on = λ k s b js u ev r l q p ih o e z. ih o e z;
})

-- ---- what happens

-- a run from the moment x: each start and firing is enabled, each start and completion due, and what is left at the end is what the entries replay
pub record Goes (n : Net) (x : Moment) (r : Run) : Type 0 where
  pub allowed : EachAllowed n x.counts (entries r)
  pub due : EachDue n x (entries r)
  pub left : (o : Outcome) → outcome r ≡ given o → moment_after n x (entries r) ≡ moment o.left

goes_end : (n : Net) (e : End) (s : State) → Goes n (moment s) (ends e s)
goes_end n e s = record { allowed = tt; due = tt; left = λ o p. ap (λ (o : Outcome). moment o.left) (given_same p) }

goes_refused : (n : Net) (x : Moment) (c : ℕ) → Goes n x (refuses c)
goes_refused n x c = record { allowed = tt; due = tt; left = λ o p. refused_given p }

goes_step : {n : Net} {x y : Moment} {b : Bool} {es : List Entry} {r : Run} → Leads n x es y → Goes n y r → Goes n x (steps b es r)
goes_step {n} {x} {y} {b} {es} {r} a w =
    let c : Leads n x (es ++ entries r) (moment_after n y (entries r)) = leads_on a (record { allowed = w.allowed; due = w.due; to = refl }) in
    record { allowed = c.allowed; due = c.due; left = λ o p. c.to ∙ w.left o p }

pub stepping : (room : ℕ) (n : Net) (s : State) (b : Bool) (js : List ℕ) (u : State) (e : Answer Event) → step room n s ≡ given (sets b js u e) → Stepping n s js u e
stepping room n s b js u e q = subst (λ (r : Answer Step). StepGood n s r) q (step_good room n s)

module _ (out : End) (room : ℕ) (n : Net) (last : Float) where
  pub run_goes : (k : ℕ) (s : State) → Goes n (moment s) (run_within out room n last k s)
  run_goes = each_run out room n last (λ k s r. Goes n (moment s) r) (record {
    over = λ k s p. goes_end n reached s;
    done = λ s p. goes_end n out s;
    no_start = λ k s c q. goes_refused n (moment s) c;
    nothing = λ k s b p q. goes_step (leads_none n (moment s)) (goes_end n quiet s);
    past = λ k s b js u e q p. goes_step (up_to_reading (stepping room n s b js u e q)) (goes_end n reached u);
    no_event = λ k s b js u c q. goes_step (up_to_reading (stepping room n s b js u (refused c) q)) (goes_refused n (moment u) c);
    goes_on = λ k s b js u ev r l q p ih.
        let w : Stepping n s js u (given ev) = stepping room n s b js u (given ev) q in
        goes_step (leads_on (up_to_reading w) w.event.leads) ih;
  })

  -- "each transition that starts or fires is enabled just then"
  pub run_allowed : (k : ℕ) (s : State) → EachAllowed n s.counts (entries (run_within out room n last k s))
  run_allowed k s = (run_goes k s).allowed

  -- what happens leads to the counts left
  pub run_counts : (k : ℕ) (s : State) (o : Outcome) → outcome (run_within out room n last k s) ≡ given o
      → after n s.counts (entries (run_within out room n last k s)) ≡ o.left.counts
  run_counts k s o p =
      sym (moment_counts n (moment s) (entries (run_within out room n last k s))) ∙ ap (λ (x : Moment). x.counts) ((run_goes k s).left o p)

-- ---- a halted run, and one from there on

-- the run r, and where it is halted the run that f gives from the state left
abbrev pub and_then : Run → (State → Run) → Run
and_then (ends quiet s) f = ends quiet s
and_then (ends spent s) f = ends spent s
and_then (ends reached s) f = ends reached s
and_then (ends halted s) f = f s
and_then (refuses c) f = refuses c
and_then (steps b es r) f = steps b es (and_then r f)

-- a run that is halted in the state u
abbrev pub HaltedIn : State → Run → Type 0
HaltedIn u r = outcome r ≡ given (record { end = halted; left = u })

pub record Joined (r : Run) (u : State) (f : State → Run) : Type 0 where
  pub all_entries : entries (and_then r f) ≡ entries r ++ entries (f u)
  pub all_steps : steps_of (and_then r f) ≡ steps_of r + steps_of (f u)
  pub all_rounded : rounded_of (and_then r f) ≡ rounded_of r + rounded_of (f u)
  pub same_end : outcome (and_then r f) ≡ outcome (f u)

pub joined : (r : Run) (u : State) (f : State → Run) → HaltedIn u r → Joined r u f
joined (ends quiet s) u f p = quiet_halted (same_outcome p).0
joined (ends spent s) u f p = spent_halted (same_outcome p).0
joined (ends reached s) u f p = reached_halted (same_outcome p).0
joined (ends halted s) u f p =
    let q : s ≡ u = (same_outcome p).1 in
    record { all_entries = ap (λ (v : State). entries (f v)) q; all_steps = rw q (omega arith); all_rounded = rw q (omega arith); same_end = ap (λ (v : State). outcome (f v)) q }
joined (refuses c) u f p = refused_given p
joined (steps b es r) u f p =
    let w : Joined r u f = joined r u f p in
    record {
      all_entries = ap (λ (l : List Entry). es ++ l) w.all_entries ∙ sym (append_assoc es (entries r) (entries (f u)));
      all_steps = omega (arith, w.all_steps);
      all_rounded = omega (arith, w.all_rounded);
      same_end = w.same_end;
    }

-- a run that is not halted is not gone on with
pub unhalted : (r : Run) → ((u : State) → HaltedIn u r → ⊥) → (f : State → Run) → and_then r f ≡ r
unhalted (ends quiet s) h f = refl
unhalted (ends spent s) h f = refl
unhalted (ends reached s) h f = refl
unhalted (ends halted s) h f = absurd (h s refl)
unhalted (refuses c) h f = refl
unhalted (steps b es r) h f = ap (steps b es) (unhalted r h f)

-- every run is halted or not
pub halted_or_not : (r : Run) → ((u : State) → HaltedIn u r → ⊥) ⊎ ((u : State) × HaltedIn u r)
halted_or_not (ends quiet s) = inl (λ u p. quiet_halted (same_outcome p).0)
halted_or_not (ends spent s) = inl (λ u p. spent_halted (same_outcome p).0)
halted_or_not (ends reached s) = inl (λ u p. reached_halted (same_outcome p).0)
halted_or_not (ends halted s) = inr (s, refl)
halted_or_not (refuses c) = inl (λ u p. refused_given p)
halted_or_not (steps b es r) = halted_or_not r

module _ (out : End) (room : ℕ) (n : Net) (last : Float) where
  -- a clock that is not below the last instant: no step
  pub run_over : (k : ℕ) (s : State) → lt s.clock last ≡ false → run_within out room n last k s ≡ ends reached s
  run_over zero s h = rw h
  run_over (suc k) s h = rw h

  -- h steps and then j are h + j
  pub run_on : (h j k : ℕ) → h + j ≡ k → (s : State) → run_within out room n last k s ≡ and_then (run_within halted room n last h s) (run_within out room n last j)
  run_on zero j k e s = go (lt s.clock last) refl
    where
      go : (c : Bool) → lt s.clock last ≡ c → run_within out room n last k s ≡ and_then (ends (pick c halted reached) s) (run_within out room n last j)
      go true p = let q : k ≡ j = omega arith in ap (λ (i : ℕ). run_within out room n last i s) q
      go false p = run_over k s p
  run_on (suc h) j zero e s = absurd (omega arith)
  run_on (suc h) j (suc k) e s = below (lt s.clock last) (one (step room n s) (λ v. run_on h j k (omega arith) v))
    where
      one : (r : Answer Step) → ((v : State) → run_within out room n last k v ≡ and_then (run_within halted room n last h v) (run_within out room n last j))
          → stepped last s r (run_within out room n last k) ≡ and_then (stepped last s r (run_within halted room n last h)) (run_within out room n last j)
      one (refused c) ih = refl
      one (given (still b)) ih = refl
      one (given (sets b js u e)) ih = past (lt last u.clock) e
        where
          past : (c : Bool) (e : Answer Event)
              → pick c (steps b (up_to_clock js u) (ends reached u)) (concluded b (up_to_clock js u) e (run_within out room n last k))
              ≡ and_then (pick c (steps b (up_to_clock js u) (ends reached u)) (concluded b (up_to_clock js u) e (run_within halted room n last h))) (run_within out room n last j)
          past true e = refl
          past false (refused c) = refl
          past false (given ev) = ap (steps b (up_to_clock js u ++ ev.what)) (ih ev.leaves)

      below : (c : Bool) → stepped last s (step room n s) (run_within out room n last k) ≡ and_then (stepped last s (step room n s) (run_within halted room n last h)) (run_within out room n last j)
          → pick c (stepped last s (step room n s) (run_within out room n last k)) (ends reached s)
          ≡ and_then (pick c (stepped last s (step room n s) (run_within halted room n last h)) (ends reached s)) (run_within out room n last j)
      below true p = p
      below false p = refl

-- ---- two limits

-- the run r' goes on where r was left with its steps done
pub record Longer (out : End) (r r' : Run) : Type 0 where
  pub more : List Entry
  pub joined : entries r' ≡ entries r ++ more
  pub left_out : (o : Outcome) → outcome r ≡ given o → o.end ≡ out

module _ (out : End) (room : ℕ) (n : Net) (last : Float) where
  pub grows : (k l : ℕ) → k ≤ l → (s : State) → (run_within out room n last l s ≡ run_within out room n last k s) ⊎ Longer out (run_within out room n last k s) (run_within out room n last l s)
  grows k l h s = go (halted_or_not r)
    where
      r : Run
      r = run_within halted room n last k s

      short : run_within out room n last k s ≡ and_then r (run_within out room n last 0)
      short = run_on out room n last k 0 k (omega arith) s

      long : run_within out room n last l s ≡ and_then r (run_within out room n last (l - k))
      long = run_on out room n last k (l - k) l (omega arith) s

      go : ((u : State) → HaltedIn u r → ⊥) ⊎ ((u : State) × HaltedIn u r)
          → (run_within out room n last l s ≡ run_within out room n last k s) ⊎ Longer out (run_within out room n last k s) (run_within out room n last l s)
      go (inl w) = inl (long ∙ unhalted r w _ ∙ sym (short ∙ unhalted r w _))
      go (inr w) =
          let u : State = w.0 in
          let a : Joined r u (run_within out room n last 0) = joined r u (run_within out room n last 0) w.1 in
          let b : Joined r u (run_within out room n last (l - k)) = joined r u (run_within out room n last (l - k)) w.1 in
          let below : lt u.clock last ≡ true = (out_steps halted room n last halted_out k s _ w.1 refl).1 in
          let same : entries (run_within out room n last k s) ≡ entries r = ap entries short ∙ a.all_entries ∙ append-nil (entries r) in
          let left : outcome (run_within out room n last k s) ≡ given (record { end = out; left = u }) =
          ap outcome short ∙ a.same_end ∙ ap (λ (c : Bool). given (record { end = pick c out reached; left = u })) below in
          inr (record {
            more = entries (run_within out room n last (l - k) u);
            joined = ap entries long ∙ b.all_entries ∙ ap (λ (es : List Entry). es ++ entries (run_within out room n last (l - k) u)) (sym same);
            left_out = λ o p. ap (λ (o : Outcome). o.end) (given_same (sym p ∙ left));
          })
