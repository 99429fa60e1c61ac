-- The jump as Gillespie has it: "Exact stochastic simulation of coupled chemical reactions", J. Phys. Chem. 81 (1977), 2340 to 2361. His direct method, page 2345,
-- equation (21b): of the propensities a_1, a_2, … with the total a_0, and a number r_2 of the unit interval, the chosen μ is the one for which
--     a_1 + … + a_(μ-1)  <  r_2 a_0  ≤  a_1 + … + a_μ.
-- Here r is r_2 a_0, and the sums are binary64's, added left to right as the total is. "Gillespie 1977 decides", says document 01, and words its own rule otherwise
-- (Jump.antt). The statements below compare the two: above 0 both choose alike; at 0, where he names none, the rule has the first with positive propensity; and the
-- clause "failing that, the last with positive propensity" is never reached. proofs/Gillespie.antt (any numbers), Races.antt and Firings.antt (what a run does)
-- prove them.
use Rattle.std.specs.Prelude.{ℕ, suc, ◌/◌, ◌^◌, ◌≤◌, ◌<◌, ◌≡◌, Bool, true, false, length, get_or, take, Float}
use mathlib.Core.List.{List, [], ◌∷◌, Memᴰ}
use Rattle.std.proofs.Math.Option.{Option, none, some}
use Rattle.std.specs.Float.{nan, binary64}
use Rattle.std.specs.Float.Ieee.{mul, lt, le}
use Rattle.net.specs.declared.Net.{Net as NetRecord}
use Rattle.net.specs.Net.{Transition, Net, Marking, zero64}
use Rattle.net.specs.Tests.{rate_fits, kinetic_total}
use Rattle.net.specs.Readable.{readable, fault}
use Rattle.rng.specs.State.{State as Generator}
use Rattle.rng.specs.Xoshiro.{output, uniform}
use Rattle.rules.specs.Propensity.{propensities, total}
use Rattle.rules.specs.Jump.{chosen}
use Rattle.rules.specs.Moves.{fired, initial_counts}
use Rattle.rules.specs.Step.{State, given, Event, sets, counts_fit, step}
use Rattle.rules.specs.Run.{beginning, run, trace}

-- ---- Gillespie's choice

-- the sum of the first j, added left to right
abbrev pub sum_to : List Float → ℕ → Float
sum_to xs j = total (take j xs)

-- Transition j is his choice. It is his number μ less 1, since transitions are counted from 0.
pub record Gillespie (r : Float) (xs : List Float) (j : ℕ) : Type 0 where
  pub inside : j < length xs
  pub below : lt (sum_to xs j) r ≡ true
  pub reaches : le r (sum_to xs (suc j)) ≡ true

-- what stands in for it at r = 0, where his rule names none: the first transition with positive propensity
pub record FirstPositive (xs : List Float) (j : ℕ) : Type 0 where
  pub inside : j < length xs
  pub positive : lt zero64 (get_or xs j nan) ≡ true
  pub before : (i : ℕ) → i < j → lt zero64 (get_or xs i nan) ≡ false

-- ---- the two compared

-- o is a transition that P holds of, and P holds of no other
pub record Only (o : Option ℕ) (P : ℕ → Type 0) : Type 0 where
  pub which : ℕ
  pub is : o ≡ some which
  pub meets : P which
  pub alone : (j : ℕ) → P j → j ≡ which

-- each is 0 or above, so none is a NaN
abbrev pub NoneNegative : List Float → Type 0
NoneNegative [] = Unit
NoneNegative (x ∷ xs) = (le zero64 x ≡ true) × NoneNegative xs

-- above 0 and up to the total: the rule chooses his μ, of which there is one
abbrev pub SameAboveZero : Type 0
SameAboveZero = (r : Float) (xs : List Float) → NoneNegative xs → lt zero64 r ≡ true → le r (total xs) ≡ true → Only (chosen r xs) (Gillespie r xs)

-- at 0 the rule chooses the first with positive propensity
abbrev pub FirstAtZero : Type 0
FirstAtZero = (xs : List Float) → NoneNegative xs → lt zero64 (total xs) ≡ true → Only (chosen zero64 xs) (FirstPositive xs)

-- where Gillespie names none
abbrev pub NoneAtZero : Type 0
NoneAtZero = (xs : List Float) → NoneNegative xs → (j : ℕ) → Gillespie zero64 xs j → ⊥

-- ---- in a run

-- What its tests leave of a net: by 4 a rate is 0 or from 2^-100 to 2^100, and an initial count at most 2^53; by 7 the kinetic weights of a transition come
-- to 16 at most; by 2 there are at most 64 transitions. proofs/Accepted.antt shows it of every net record without a fault.
abbrev pub Tested : List Transition → Type 0
Tested [] = Unit
Tested (t ∷ ts) = (rate_fits t.rate ≡ true) × (kinetic_total t.takes ≤ 16) × Tested ts

pub record Accepted (n : Net) : Type 0 where
  pub few : length n.transitions ≤ 64
  pub tested : Tested n.transitions
  pub initial : counts_fit (initial_counts n) ≡ true

-- the states in which steps begin, from the beginning of a run on, with room for so many timers
pub data Reached (room : ℕ) (n : Net) (g : Generator) : State → Type 0 where
  at_first : Reached room n g (beginning n g)
  after_step : {s u : State} {b : Bool} {js : List ℕ} {e : Event} → Reached room n g s → step room n s ≡ given (sets b js u (given e)) → Reached room n g e.leaves

-- x2 is this number over 2 ^ 53, so that it is below 1
abbrev pub draw : Generator → ℕ
draw g = output g / 2 ^ 11

-- "r = x2 × a0"
abbrev pub reach : Generator → Float → Float
reach g a0 = mul binary64 (uniform g) a0

-- transition j, in a race that draws x2 from g, with the propensities xs
pub data Fires (g : Generator) (xs : List Float) (j : ℕ) : Type 0 where
  -- it is Gillespie's choice. The draw is not 0, and r is above 0 and at most a0.
  gillespie : 0 < draw g → lt zero64 (reach g (total xs)) ≡ true → le (reach g (total xs)) (total xs) ≡ true → Gillespie (reach g (total xs)) xs j → Fires g xs j
  -- except at r = 0, which is where the draw is 0: the first with positive propensity
  at_zero : draw g ≡ 0 → reach g (total xs) ≡ zero64 → FirstPositive xs j → Fires g xs j

-- A race chooses the one transition of which that holds, wherever a0 > 0: n passed its tests, and no count is above 2^53.
abbrev pub RaceIsGillespie : Type 0
RaceIsGillespie = (n : Net) → Accepted n → (m : Marking) → counts_fit m ≡ true → (g : Generator) → lt zero64 (total (propensities n m)) ≡ true
    → Only (chosen (reach g (total (propensities n m))) (propensities n m)) (Fires g (propensities n m))

-- r never passes a0,
abbrev pub NeverPasses : Type 0
NeverPasses = (n : Net) → Accepted n → (m : Marking) → counts_fit m ≡ true → (g : Generator) → lt zero64 (total (propensities n m)) ≡ true
    → le (reach g (total (propensities n m))) (total (propensities n m)) ≡ true

-- and so "failing that" is never reached: what a race chooses has positive propensity, and its running sum is ≥ r.
abbrev pub NeverFailing : Type 0
NeverFailing = (n : Net) → Accepted n → (m : Marking) → counts_fit m ≡ true → (g : Generator) (j : ℕ)
    → chosen (reach g (total (propensities n m))) (propensities n m) ≡ some j
    → (lt zero64 (get_or (propensities n m) j nan) ≡ true) × (le (reach g (total (propensities n m))) (sum_to (propensities n m) (suc j)) ≡ true)

-- A step in which j fires, among the steps of the runs from g. In the step `now` is the state when the clock has been set: it has the counts after the
-- step's starts, and the generator from which x2 is drawn.
pub record FiredIn (room : ℕ) (n : Net) (g : Generator) (j : ℕ) : Type 0 where
  pub begins : State
  pub reached : Reached room n g begins
  pub rounds : Bool
  pub starters : List ℕ
  pub now : State
  pub event : Event
  pub steps : step room n begins ≡ given (sets rounds starters now (given event))
  pub fires : event.what ≡ fired j ∷ []

-- each firing in a run's trace is in such a step
abbrev pub TraceSteps : Type 0
TraceSteps = (room : ℕ) (n : Net) (g : Generator) (last : Float) (k j : ℕ) → Memᴰ (fired j) (trace (run room n last k (beginning n g))) → FiredIn room n g j

-- And so in a run on any net record without a fault: in every step in which j fires, the rule above holds of j.
abbrev pub RunIsGillespie : Type 0
RunIsGillespie = (n : NetRecord) → fault n ≡ none → (room : ℕ) (g : Generator) (j : ℕ) (f : FiredIn room (readable n) g j)
    → Fires f.now.generator (propensities (readable n) f.now.counts) j
