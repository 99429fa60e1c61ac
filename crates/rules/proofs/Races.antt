-- Every race in a run on an accepted net: the choice is Gillespie's, except at r = 0.
use Prim.Native.Nat.{ℕ, zero, suc, ◌<◌}
use mathlib.Core.Path.{◌≡◌, refl, sym, subst}
use mathlib.Core.Bool.{Bool, true, false}
use mathlib.Core.List.{List, [], ◌∷◌}
use mathlib.Core.Option.{Option, none, some}
use native.Mathlib.Omega.{arith}
use lib.Dec.{T}
use lib.ListN.{get_or}
use lib.Ieee.{Float, nan, binary64, add, lt, le, fits}
use lib.Ieee.Fits.{add-fits}
use lib.Ieee.Bits.{of_bits-fits}
use Rattle.net.specs.Net.{Net, Marking, pick, zero64}
use Rattle.net.specs.Readable.{readable}
use Rattle.rng.specs.State.{State as Generator}
use Rattle.rng.specs.Xoshiro.{step as drawn}
use Rattle.rules.specs.Propensity.{propensities, summed, total}
use Rattle.rules.specs.Exact.{adds_rounded}
use Rattle.rules.specs.Jump.{chosen}
use Rattle.rules.specs.Timers.{Timer, first, others}
use Rattle.rules.specs.Moves.{Entry, completed, fired, move}
use Rattle.rules.specs.Step.{State, state, Answer, refused, given, Starts, starts, waiting, drawn_for, Next, nothing_left, race, completion, next, Event, counts_fit, event, complete, fire, Step, still, sets, set_clock, go_on, after_starts, step}
use Rattle.rules.specs.Gillespie.{sum_to, FirstPositive, Only, NoneNegative, Accepted, draw, reach, Fires, gillespie, at_zero, RaceIsGillespie, NeverPasses, NeverFailing, RunIsGillespie}
use Rattle.rules.proofs.Order.{lt_le_of}
use Rattle.rules.proofs.Within.{Within, positive_above}
use Rattle.rules.proofs.Bounded.{propensities_none_negative, total_within, chosen_above}
use Rattle.rules.proofs.Drawn.{reach_most, reach_within, reach_zero}
use Rattle.rules.proofs.Gillespie.{gillespie_once, gillespie_positive, zero_below_sum, same_above_zero, first_once, first_at_zero}
use Rattle.rules.proofs.Accepted.{accepted, fit_held, starts_fit, reached_fit}

summed_fits : (xs : List Float) (s : Float) → T (fits binary64 s) → T (fits binary64 (summed s xs))
summed_fits [] s h = h
summed_fits (x ∷ xs) s h = summed_fits xs (add binary64 s x) (add-fits binary64 s x)

total_fits : (xs : List Float) → T (fits binary64 (total xs))
total_fits xs = summed_fits xs zero64 (of_bits-fits binary64 0)

-- ---- a race

fires_once : (g : Generator) (xs : List Float) → NoneNegative xs → (i j : ℕ) → Fires g xs i → Fires g xs j → i ≡ j
fires_once g xs p i j (gillespie d b q a) (gillespie d' b' q' a') = gillespie_once (reach g (total xs)) xs p i j a a'
fires_once g xs p i j (gillespie d b q a) (at_zero e z f) = absurd (omega arith)
fires_once g xs p i j (at_zero e z f) (gillespie d b q a) = absurd (omega arith)
fires_once g xs p i j (at_zero e z f) (at_zero e' z' f') = first_once xs i j f f'

pub race_is_gillespie : RaceIsGillespie
race_is_gillespie n a m h g p = go (draw g) refl
  where
    xs : List Float
    xs = propensities n m

    none_neg : NoneNegative xs
    none_neg = propensities_none_negative n a m (fit_held m h)

    w : Within 164 1012 (total xs)
    w = total_within n a m (fit_held m h) p

    -- what the rule chooses is a transition that fires
    one : {P : ℕ → Type 0} → Only (chosen (reach g (total xs)) xs) P → ((j : ℕ) → P j → Fires g xs j) → Only (chosen (reach g (total xs)) xs) (Fires g xs)
    one o f =
        record {
          which = o.which;
          is = o.is;
          meets = f o.which o.meets;
          alone = λ j b. fires_once g xs none_neg j o.which b (f o.which o.meets);
        }

    go : (k : ℕ) → draw g ≡ k → Only (chosen (reach g (total xs)) xs) (Fires g xs)
    go zero e =
        let z : reach g (total xs) ≡ zero64 = reach_zero g (total xs) e w.above in
        one (subst (λ (r : Float). Only (chosen r xs) (FirstPositive xs)) (sym z) (first_at_zero xs none_neg p)) (λ j f. at_zero e z f)
    go (suc k) e =
        let d : 0 < draw g = omega arith in
        let b = positive_above (reach g (total xs)) (reach_within g d 164 1012 (total xs) (omega arith) (omega arith) w).above in
        let q = reach_most g d (total xs) w.above (total_fits xs) in
        one (same_above_zero (reach g (total xs)) xs none_neg b q) (λ j f. gillespie d b q f)

-- the chosen one, where there is one
chosen_fires : (n : Net) → Accepted n → (m : Marking) → counts_fit m ≡ true → (g : Generator) (j : ℕ)
    → chosen (reach g (total (propensities n m))) (propensities n m) ≡ some j → Fires g (propensities n m) j
chosen_fires n a m h g j e =
    let o = race_is_gillespie n a m h g (chosen_above n a m (fit_held m h) _ j e) in
    let i : o.which ≡ j = same o.is e in
    subst (λ (k : ℕ). Fires g (propensities n m) k) i o.meets
  where
    same : {x : Option ℕ} {i j : ℕ} → x ≡ some i → x ≡ some j → i ≡ j
    same p q = cc

pub never_passes : NeverPasses
never_passes n a m h g p = go (race_is_gillespie n a m h g p).meets
  where
    go : {j : ℕ} → Fires g (propensities n m) j → le (reach g (total (propensities n m))) (total (propensities n m)) ≡ true
    go (gillespie d b q c) = q
    go (at_zero e z f) = rw z (lt_le_of zero64 (total (propensities n m)) p)

pub never_failing : NeverFailing
never_failing n a m h g j e = go (chosen_fires n a m h g j e)
  where
    none_neg : NoneNegative (propensities n m)
    none_neg = propensities_none_negative n a m (fit_held m h)

    go : Fires g (propensities n m) j
        → (lt zero64 (get_or (propensities n m) j nan) ≡ true) × (le (reach g (total (propensities n m))) (sum_to (propensities n m) (suc j)) ≡ true)
    go (gillespie d b q c) = (gillespie_positive (reach g (total (propensities n m))) (propensities n m) none_neg j c, c.reaches)
    go (at_zero z r f) = (f.positive, rw r (zero_below_sum (propensities n m) none_neg (suc j)))

-- ---- a step

abbrev EventFires : Net → State → Answer Event → Type 0
EventFires n u (refused c) = Unit
EventFires n u (given e) = (j : ℕ) → e.what ≡ fired j ∷ [] → Fires u.generator (propensities n u.counts) j

abbrev StepFires : Net → Answer Step → Type 0
StepFires n (refused c) = Unit
StepFires n (given (still b)) = Unit
StepFires n (given (sets b js u e)) = EventFires n u e

fired_same : (i j : ℕ) → ◌≡◌ {A = List Entry} (fired i ∷ []) (fired j ∷ []) → i ≡ j
fired_same i j p = cc

no_firing : {A : Type 0} (j : ℕ) → ◌≡◌ {A = List Entry} [] (fired j ∷ []) → A
no_firing j p = absurd (let z : ◌≡◌ {A = ℕ} 0 1 = cc in omega arith)

no_completion : {A : Type 0} (i j : ℕ) → ◌≡◌ {A = List Entry} (completed i ∷ []) (fired j ∷ []) → A
no_completion i j p = absurd (let z : ◌≡◌ {A = ℕ} 0 1 = cc in omega arith)

module _ (n : Net) (u : State) where
  event_fires : (v : State) (i : ℕ) (q : List Timer) (g : Generator) → Fires u.generator (propensities n u.counts) i → EventFires n u (event n v (fired i) q g)
  event_fires v i q g f = go (counts_fit (move n v.counts (fired i)))
    where
      go : (c : Bool) → EventFires n u (pick c (given (record { what = fired i ∷ []; leaves = state v.clock (move n v.counts (fired i)) q g })) (refused 14))
      go true = λ j p. subst (λ (k : ℕ). Fires u.generator (propensities n u.counts) k) (fired_same i j p) f
      go false = tt

  fire_fires : (v : State) (o : Option ℕ) → ((j : ℕ) → o ≡ some j → Fires u.generator (propensities n u.counts) j) → EventFires n u (fire n v o)
  fire_fires v none h = λ j p. no_firing j p
  fire_fires v (some i) h = event_fires v i v.timers v.generator (h i refl)

  complete_fires : EventFires n u (complete n u)
  complete_fires = go (counts_fit (move n u.counts (completed i)))
    where
      i : ℕ
      i = (first u.timers).who

      go : (c : Bool) → EventFires n u (pick c (given (record { what = completed i ∷ []; leaves = state u.clock (move n u.counts (completed i)) (others u.timers) u.generator })) (refused 14))
      go true = λ j p. no_completion i j p
      go false = tt

module _ (n : Net) (a : Accepted n) where
  go_on_fires : (b : Bool) (js : List ℕ) (v : State) (x : Next) → counts_fit v.counts ≡ true
      → StepFires n (given (go_on n b js v (total (propensities n v.counts)) (propensities n v.counts) x))
  go_on_fires b js v nothing_left h = tt
  go_on_fires b js v (race dt) h =
      let u : State = set_clock (add binary64 v.clock dt) v in
      fire_fires n u (state u.clock u.counts u.timers (drawn u.generator)) (chosen (reach u.generator (total (propensities n u.counts))) (propensities n u.counts))
      (chosen_fires n a u.counts h u.generator)
  go_on_fires b js v (completion at) h = complete_fires n (set_clock at v)

  step_fires : (room : ℕ) (s : State) → counts_fit s.counts ≡ true → StepFires n (step room n s)
  step_fires room s h = go (starts room n s) (λ b p. starts_fit room n s b p h)
    where
      go : (r : Answer Starts) → ((b : Starts) → r ≡ given b → counts_fit b.counts ≡ true) → StepFires n (after_starts n s r)
      go (refused c) k = tt
      go (given b) k =
          let a0 : Float = total (propensities n b.counts) in
          go_on_fires (adds_rounded n b.counts) b.who (state s.clock b.counts b.timers (drawn_for a0 s.generator)) (next a0 s.clock (waiting a0 s.generator) b.timers) (k b refl)

-- ---- a run

pub run_is_gillespie : RunIsGillespie
run_is_gillespie n a room g j f =
    let h = reached_fit room (readable n) (accepted n a) g f.reached in
    subst (StepFires (readable n)) f.steps (step_fires (readable n) (accepted n a) room f.begins h) j f.fires
