-- Order 2 for a program that keeps the tokens of now and the peak so far. The tokens stay as they are at a start; a completion adds what it puts, less what its
-- timer had taken; a firing adds what it puts, less what it takes. So the starts of a step need no look, and after its event the peak is the larger of the peak
-- so far and the tokens that it leaves.
use Prim.Native.Nat.{ℕ, ◌+◌, ◌≤◌, ◌<◌, max}
use mathlib.Core.Path.{◌≡◌, refl, sym, ap, ◌∙◌}
use mathlib.Core.Bool.{Bool, true, false}
use mathlib.Core.Logic.{inl}
use mathlib.Core.List.{List, [], ◌∷◌, ◌++◌, map}
use native.Mathlib.Omega.{arith}
use lib.ListN.{length}
use Rattle.net.specs.Net.{Arc, Net, Marking, pick}
use Rattle.net.specs.Tests.{empty}
use Rattle.rules.specs.Timers.{Timer, timer_of, insert}
use Rattle.rules.specs.Moves.{Entry, reading, started, completed, fired, transition, taking, putting, weight_taken, weight_put}
use Rattle.rules.specs.Step.{State, Answer, Event, nobody}
use Rattle.rules.specs.Moments.{Moment, moment, happen, moment_after, sum_of, taken_by_timers, tokens, moments, largest, peak_from}
use Rattle.rules.specs.Demand3.{places_once, Ready, EachAllowed}
use Rattle.rules.proofs.Counts.{taking_length, covered}
use Rattle.rules.proofs.Weighing.{Inside, ones, weigh_taking, weigh_putting, over_insert, ones_counts, ones_takes, ones_puts, taken_over}
use Rattle.rules.proofs.Allowing.{Lone, no_entry, one_completion, one_firing, Ends, Stepping}

-- ---- the largest value

pub largest_max : (most : ℕ) (xs : List Moment) → largest most xs ≡ max most (largest 0 xs)
largest_max most [] = omega arith
largest_max most (x ∷ xs) = omega (arith, largest_max (max most (tokens x)) xs, largest_max (max 0 (tokens x)) xs)

pub moments_append : (n : Net) (x : Moment) (es fs : List Entry) → moments n x (es ++ fs) ≡ moments n x es ++ moments n (moment_after n x es) fs
moments_append n x [] fs = refl
moments_append n x (reading t ∷ es) fs = moments_append n (happen n x (reading t)) es fs
moments_append n x (started j ∷ es) fs = ap (λ (l : List Moment). happen n x (started j) ∷ l) (moments_append n (happen n x (started j)) es fs)
moments_append n x (completed j ∷ es) fs = ap (λ (l : List Moment). happen n x (completed j) ∷ l) (moments_append n (happen n x (completed j)) es fs)
moments_append n x (fired j ∷ es) fs = ap (λ (l : List Moment). happen n x (fired j) ∷ l) (moments_append n (happen n x (fired j)) es fs)

largest_append : (most : ℕ) (xs ys : List Moment) → largest most (xs ++ ys) ≡ largest (largest most xs) ys
largest_append most [] ys = refl
largest_append most (x ∷ xs) ys = largest_append (max most (tokens x)) xs ys

-- a peak carried on: what comes later is looked at with the peak so far
pub peak_append : (n : Net) (most : ℕ) (x : Moment) (es fs : List Entry)
    → peak_from n most x (es ++ fs) ≡ peak_from n (peak_from n most x es) (moment_after n x es) fs
peak_append n most x es fs = ap (largest most) (moments_append n x es fs) ∙ largest_append most (moments n x es) (moments n (moment_after n x es) fs)

pub peak_max : (n : Net) (most : ℕ) (x : Moment) (es : List Entry) → peak_from n most x es ≡ max most (peak_from n 0 x es)
peak_max n most x es = largest_max most (moments n x es)

-- ---- the value after an entry, from the value before

pub sum_taking : (n : Net) (m : Marking) (j : ℕ) → places_once (transition n j).takes ≡ true → Ready n m j
    → sum_of (taking m (transition n j).takes) + weight_taken (transition n j).takes ≡ sum_of m
sum_taking n m j o r =
    let m' : Marking = taking m (transition n j).takes in
    omega (arith, weigh_taking ones (transition n j).takes m o (covered n m j r), ones_counts m', ones_counts m, ones_takes (transition n j).takes)

-- what each arc puts lands in one of k places (refusal 3)
abbrev pub PutsInside : ℕ → List Arc → Type 0
PutsInside k [] = Unit
PutsInside k (a ∷ rest) = (a.place < k) × PutsInside k rest

inside : (k : ℕ) (arcs : List Arc) → PutsInside k arcs → Inside ones k arcs
inside k [] h = tt
inside k (a ∷ rest) h = (inl h.0, inside k rest h.1)

sum_putting : (arcs : List Arc) (m : Marking) → PutsInside (length m) arcs → sum_of (putting m arcs) ≡ sum_of m + weight_put arcs
sum_putting arcs m i =
    omega (arith, weigh_putting ones arcs m (inside (length m) arcs i), ones_counts (putting m arcs), ones_counts m, ones_puts arcs)

taken_insert : (z : Timer) (q : List Timer) → taken_by_timers (insert z q) ≡ z.taken + taken_by_timers q
taken_insert z q = omega (arith, over_insert (λ (y : Timer). y.taken) z q, taken_over (insert z q), taken_over q)

module _ (n : Net) (x : Moment) (j : ℕ) where
  -- a start leaves the value as it was
  pub start_tokens : places_once (transition n j).takes ≡ true → Ready n x.counts j → tokens (happen n x (started j)) ≡ tokens x
  start_tokens o r =
      omega (arith, sum_taking n x.counts j o r, taken_insert (timer_of x.clock j (transition n j)) x.timers)

  -- a completion of the first timer z
  pub completion_tokens : (z : Timer) (q : List Timer) → x.timers ≡ z ∷ q → PutsInside (length x.counts) (transition n j).puts
      → tokens (happen n x (completed j)) + z.taken ≡ tokens x + weight_put (transition n j).puts
  completion_tokens z q e i = rw e (omega (arith, sum_putting (transition n j).puts x.counts i))

  pub firing_tokens : places_once (transition n j).takes ≡ true → Ready n x.counts j → PutsInside (length x.counts) (transition n j).puts
      → tokens (happen n x (fired j)) + weight_taken (transition n j).takes ≡ tokens x + weight_put (transition n j).puts
  firing_tokens o r i =
      let m : Marking = taking x.counts (transition n j).takes in
      let l : length m ≡ length x.counts = taking_length (transition n j).takes x.counts in
      omega (arith, sum_taking n x.counts j o r, sum_putting (transition n j).puts m (rw l i))

-- ---- the starts of a step, and its event

module _ (n : Net) (once : (j : ℕ) → places_once (transition n j).takes ≡ true) where
  pub starts_tokens : (js : List ℕ) (x : Moment) → EachAllowed n x.counts (map started js) → tokens (moment_after n x (map started js)) ≡ tokens x
  starts_tokens [] x a = refl
  starts_tokens (j ∷ js) x a = starts_tokens js (happen n x (started j)) a.1 ∙ start_tokens n x j (once j) a.0

  pub starts_peak : (js : List ℕ) (x : Moment) (most : ℕ) → EachAllowed n x.counts (map started js)
      → peak_from n most x (map started js) ≡ pick (nobody js) most (max most (tokens x))
  starts_peak [] x most a = refl
  starts_peak (j ∷ js) x most a =
      let y : Moment = happen n x (started j) in
      let same : tokens y ≡ tokens x = start_tokens n x j (once j) a.0 in
      starts_peak js y (max most (tokens y)) a.1 ∙ go (nobody js) same
    where
      go : (c : Bool) → tokens (happen n x (started j)) ≡ tokens x
          → pick c (max most (tokens (happen n x (started j)))) (max (max most (tokens (happen n x (started j)))) (tokens (happen n x (started j))))
          ≡ max most (tokens x)
      go true e = rw e
      go false e = rw e (omega arith)

  -- the value when a step has set the clock is the one at its beginning
  pub sets_tokens : (s : State) (js : List ℕ) (u : State) (e : Answer Event) → Stepping n s js u e → tokens (moment u) ≡ tokens (moment s)
  sets_tokens s js u e g =
      ap (λ (y : Moment). tokens (happen n y (reading u.clock))) (sym g.starts.to) ∙ starts_tokens js (moment s) g.starts.allowed

-- after the event of a step, if there is one, the peak is the larger of the peak so far and the new value
pub event_peak_any : (n : Net) (u : State) (ev : Event) → Ends n u ev → (most : ℕ)
    → peak_from n most (moment u) ev.what ≡ pick (empty ev.what) most (max most (tokens (moment ev.leaves)))
event_peak_any n u ev g most = go g.lone g.leads.to
  where
    go : {es : List Entry} → Lone es → moment_after n (moment u) es ≡ moment ev.leaves
        → peak_from n most (moment u) es ≡ pick (empty es) most (max most (tokens (moment ev.leaves)))
    go no_entry e = refl
    go (one_completion j) e = ap (λ (y : Moment). max most (tokens y)) e
    go (one_firing j) e = ap (λ (y : Moment). max most (tokens y)) e

-- where the peak so far has the value before the event, there is no need to ask whether there is one
pub event_peak : (n : Net) (u : State) (ev : Event) → Ends n u ev → (most : ℕ) → tokens (moment u) ≤ most
    → peak_from n most (moment u) ev.what ≡ max most (tokens (moment ev.leaves))
event_peak n u ev g most h = go g.lone g.leads.to
  where
    go : {es : List Entry} → Lone es → moment_after n (moment u) es ≡ moment ev.leaves → peak_from n most (moment u) es ≡ max most (tokens (moment ev.leaves))
    go no_entry e = let same : tokens (moment u) ≡ tokens (moment ev.leaves) = ap tokens e in omega arith
    go (one_completion j) e = ap (λ (y : Moment). max most (tokens y)) e
    go (one_firing j) e = ap (λ (y : Moment). max most (tokens y)) e
