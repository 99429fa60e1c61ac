-- A path between two steps, and playing on from there. Document 02, order 8: "A path can be halted between two steps and carried to another accepted
-- net: clock, counts, generator, step count, step limit, peak, order 6's count, the instants with what is recorded of them, and running timers go
-- over."
use Rattle.std.specs.Prelude.{ℕ, zero, suc, ◌+◌, ◌-◌, min, Bool, true, false, List, [], ◌∷◌, ◌++◌, map, ltb, length, take, drop, Float}
use Rattle.refusals.specs as Refusal
use Rattle.net.specs.Net.{Net, Marking, pick, zero64}
use Rattle.rng.specs.State.{State as Generator}
use Rattle.rules.specs.Moves.{Entry, reading, initial_counts}
use Rattle.rules.specs.Step.{State, Answer, refused, given}
use Rattle.rules.specs.Moments.{moment, start, tokens, peak_from}
use Rattle.rules.specs.Run.{End, quiet, spent, reached, halted, Run, beginning, run_within, Outcome, outcome, entries, steps_of, rounded_of}
use Rattle.rules.specs.Shown.{shown_from, reached_from, last_of, instants_fit, limit_fits, Path}

-- ---- the state

pub record Carried : Type 0 where
  -- clock, counts, running timers and generator
  pub now : State
  pub steps : ℕ
  pub limit : ℕ
  pub peak : ℕ
  -- order 6's count
  pub rounded : ℕ
  pub instants : List Float
  -- the counts at each recorded instant; these are the first so many of the list
  pub recorded : List Marking

abbrev pub unrecorded : Carried → List Float
unrecorded c = drop (length c.recorded) c.instants

-- ---- a call that plays on

-- "A path call may name a number of steps: once it has done that many and another would follow, its end is halted"; "The call that carries a path
-- plays on and may halt likewise". The number counts the call's own steps. One that is not below the steps left never halts. `room` is 256, or what
-- order 10 asks.
abbrev pub run_onward : ℕ → Net → Carried → ℕ → Run
run_onward room n c named =
    let left = c.limit - c.steps in
    let out = pick (ltb named left) halted spent in
    run_within out room n (last_of c.instants) (min named left) c.now

-- of the instants xs, from the first, those that a clock reading reaches
abbrev pub met_by : List Entry → List Float → List Float
met_by es xs = take (reached_from es xs) xs

-- the state after the run r that leaves the state s: instants reached in it are recorded with the counts then
abbrev pub leaving : Net → Carried → Run → State → Carried
leaving n c r s =
    record {
      now = s;
      steps = c.steps + steps_of r;
      limit = c.limit;
      peak = peak_from n c.peak (moment c.now) (entries r);
      rounded = c.rounded + rounded_of r;
      instants = c.instants;
      recorded = c.recorded ++ map (shown_from n c.now.counts (entries r)) (met_by (entries r) (unrecorded c));
    }

-- What the call answers: the counts that the table shows, from the first instant on; the end; how many instants are settled; and the state left,
-- whose step count, peak, order 6's count and generator are the answer's.
pub record Onward : Type 0 where
  pub shown : List Marking
  pub end : End
  pub settled : ℕ
  pub left : Carried

abbrev pub is_halted : End → Bool
is_halted quiet = false
is_halted spent = false
is_halted reached = false
is_halted halted = true

-- the instants that an end fills: "at the end each unrecorded instant gets the last counts" (01); halted: "unrecorded cells left"
abbrev pub filled_by : End → List Float → List Float
filled_by e xs = pick (is_halted e) [] xs

-- "Settled are then the instants ≤ some clock reading so far, else all" (01); halted: "with instants settled as for spent"
abbrev pub settled_in : End → Carried → ℕ
settled_in quiet c = length c.instants
settled_in spent c = length c.recorded
settled_in reached c = length c.instants
settled_in halted c = length c.recorded

-- the answer of a call that ends so and leaves the state c: recorded cells stand
abbrev pub answering : End → Carried → Onward
answering e c =
    record {
      shown = c.recorded ++ map (λ (x : Float). c.now.counts) (filled_by e (unrecorded c));
      end = e;
      settled = settled_in e c;
      left = c;
    }

abbrev pub ended : Net → Carried → Run → Answer Outcome → Answer Onward
ended n c r (refused k) = refused k
ended n c r (given o) = given (answering o.end (leaving n c r o.left))

abbrev pub play_on : ℕ → Net → Carried → ℕ → Answer Onward
play_on room n c named =
    let r = run_onward room n c named in
    ended n c r (outcome r)

-- ---- a path call that names a number

-- Where a path begins: "Instants ≤ 0 are recorded before the first step" (01), and the start is a moment of the peak (order 2).
abbrev pub begun : Net → Generator → List Float → ℕ → Carried
begun n g xs limit =
    record {
      now = beginning n g;
      steps = 0;
      limit = limit;
      peak = tokens (start n);
      rounded = 0;
      instants = xs;
      recorded = map (λ (x : Float). initial_counts n) (met_by (reading zero64 ∷ []) xs);
    }

-- 12, then 13, then the run's own refusals
abbrev pub path_naming : ℕ → Net → Generator → List Float → ℕ → ℕ → Answer Onward
path_naming room n g xs limit named =
    let limited = pick (limit_fits limit) (play_on room n (begun n g xs limit) named) (refused Refusal.bad_limit) in
    pick (instants_fit xs) limited (refused Refusal.bad_instants)

-- what a path call gives of it
abbrev pub path_answer : Answer Onward → Answer Path
path_answer (refused k) = refused k
path_answer (given o) =
    given (record {
      shown = o.shown;
      end = o.end;
      steps = o.left.steps;
      settled = o.settled;
      peak = o.left.peak;
      rounded = o.left.rounded;
      generator = o.left.now.generator;
    })

-- ---- calls one after another

-- an answer, and where it is halted that of the next call, which is handed the state left
abbrev pub then_call : Answer Onward → (Carried → Answer Onward) → Answer Onward
then_call (refused k) next = refused k
then_call (given o) next =
    let further = next o.left in
    pick (is_halted o.end) further (given o)

-- calls that name h and then these numbers, each handed the state that the last left
abbrev pub calls : ℕ → Net → Carried → ℕ → List ℕ → Answer Onward
calls room n c h [] = play_on room n c h
calls room n c h (k ∷ ks) = then_call (play_on room n c h) (λ (d : Carried). calls room n d k ks)

abbrev pub altogether : List ℕ → ℕ
altogether [] = 0
altogether (k ∷ ks) = k + altogether ks

-- A path in hand, by its answer so far: a call gives it one step where it is halted, and where it is refused or ended repeats the answer (orders 10
-- and 11).
abbrev pub next_step : ℕ → Net → Answer Onward → Answer Onward
next_step room n a = then_call a (λ (d : Carried). play_on room n d 1)

-- so many such calls
abbrev pub steps_given : ℕ → Net → ℕ → Answer Onward → Answer Onward
steps_given room n zero a = a
steps_given room n (suc j) a = steps_given room n j (next_step room n a)
