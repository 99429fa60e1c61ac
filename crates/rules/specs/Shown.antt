-- What a path call shows of its run: counts at the instants, end, steps, settled instants, peak, rounded steps. Document 01, "The run of demand 3",
-- "Added" (the peak by document 02, order 2), and refusals 12 and 13 of "Path".
use Rattle.std.specs.Prelude.{ℕ, suc, Bool, true, false, ◌&&◌, ◌||◌, List, [], ◌∷◌, map, leb, length, Float}
use Rattle.std.specs.Float.{binary64}
use Rattle.std.specs.Float.Ieee.{of_bits, le}
use Rattle.refusals.specs as Refusal
use Rattle.net.specs.Net.{Net, Marking, pick, zero64}
use Rattle.rng.specs.State.{State as Generator}
use Rattle.rules.specs.Moves.{Entry, reading, started, completed, fired, after, initial_counts}
use Rattle.rules.specs.Step.{Answer, refused, given}
use Rattle.rules.specs.Moments.{peak_of}
use Rattle.rules.specs.Run.{End, quiet, spent, reached, halted, Run, Outcome, beginning, run, outcome, steps_of, rounded_of, trace}

-- ---- the clock first reaches x at the first reading not below it

-- the entries before that, or all of them
abbrev pub before : Float → List Entry → List Entry
before x [] = []
before x (reading t ∷ es) = pick (le x t) [] (reading t ∷ before x es)
before x (started j ∷ es) = started j ∷ before x es
before x (completed j ∷ es) = completed j ∷ before x es
before x (fired j ∷ es) = fired j ∷ before x es

abbrev pub reaches : Float → List Entry → Bool
reaches x [] = false
reaches x (reading t ∷ es) = le x t || reaches x es
reaches x (started j ∷ es) = reaches x es
reaches x (completed j ∷ es) = reaches x es
reaches x (fired j ∷ es) = reaches x es

-- the counts shown at the instant x, where entries follow the counts m
abbrev pub shown_from : Net → Marking → List Entry → Float → Marking
shown_from n m es x = after n m (before x es)

-- … and where they are a whole run's
abbrev pub shown_at : Net → List Entry → Float → Marking
shown_at n es x = shown_from n (initial_counts n) es x

-- ---- the other answers

-- "Settled are then the instants ≤ some clock reading so far, else all": how many, from the first. Halted: "with instants settled as for spent"
-- (order 8).
abbrev pub reached_from : List Entry → List Float → ℕ
reached_from es [] = 0
reached_from es (x ∷ xs) = pick (reaches x es) (suc (reached_from es xs)) 0

abbrev pub settled_of : End → List Entry → List Float → ℕ
settled_of quiet es xs = length xs
settled_of spent es xs = reached_from es xs
settled_of reached es xs = length xs
settled_of halted es xs = reached_from es xs

-- ---- the path call

-- "12 instants not 1..1,024, not finite, below 0, above 2^31 or falling": each from low on and at most 2^31
abbrev pub rising : Float → List Float → Bool
rising low [] = true
rising low (x ∷ xs) = le low x && le x (of_bits binary64 0x41E0_0000_0000_0000) && rising x xs

abbrev pub instants_fit : List Float → Bool
instants_fit xs = leb 1 (length xs) && leb (length xs) 1024 && rising zero64 xs

-- "13 step limit"
abbrev pub limit_fits : ℕ → Bool
limit_fits k = leb 1 k && leb k 1_000_000

abbrev pub last_of : List Float → Float
last_of [] = zero64
last_of (x ∷ []) = x
last_of (x ∷ (y ∷ ys)) = last_of (y ∷ ys)

-- an answer: the counts at each instant, in place order, what "Added" lists, and order 6's count
pub record Path : Type 0 where
  pub shown : List Marking
  pub end : End
  pub steps : ℕ
  pub settled : ℕ
  pub peak : ℕ
  pub rounded : ℕ
  pub generator : Generator

-- the answer from a run and its outcome
abbrev pub reported : Net → List Float → Run → Answer Outcome → Answer Path
reported n xs r (refused c) = refused c
reported n xs r (given o) =
    let es = trace r in
    given (record {
      shown = map (shown_at n es) xs;
      end = o.end;
      steps = steps_of r;
      settled = settled_of o.end es xs;
      peak = peak_of n es;
      rounded = rounded_of r;
      generator = o.left.generator;
    })

-- the run of a path call: "15 a 257th timer would start"
abbrev pub run_of : Net → Generator → List Float → ℕ → Run
run_of n g xs k = run 256 n (last_of xs) k (beginning n g)

-- the answer of that run
abbrev pub worked : Net → Generator → List Float → ℕ → Answer Path
worked n g xs k =
    let r = run_of n g xs k in
    reported n xs r (outcome r)

-- The answer of a path call on an accepted net, but for its table: 12, then 13, then the run's own refusals. The net's tests 2 to 7 and 11 are the call's
-- (crate ssa, Path).
abbrev pub accepted_path : Net → Generator → List Float → ℕ → Answer Path
accepted_path n g xs k =
    let limited = pick (limit_fits k) (worked n g xs k) (refused Refusal.bad_limit) in
    pick (instants_fit xs) limited (refused Refusal.bad_instants)
