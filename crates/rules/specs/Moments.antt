-- The moments of a run, replayed from its entries, and the peak. Document 02, order 2: "the peak is the largest value, at any moment of the path, of
-- all place counts plus the weights taken by each running timer. Moments are the start, and after every start, completion and firing."
-- The states that a run goes through are what its entries replay (proofs/Runs, run-goes).
use Rattle.std.specs.Prelude.{ℕ, ◌+◌, max, List, [], ◌∷◌, Float}
use Rattle.net.specs.Net.{Net, Marking, zero64}
use Rattle.rules.specs.Moves.{Entry, reading, started, completed, fired, transition, move, initial_counts}
use Rattle.rules.specs.Timers.{Timer, timer_of, insert, others}
use Rattle.rules.specs.Step.{State}

-- the clock, the counts and the running timers
pub record Moment : Type 0 where
  pub clock : Float
  pub counts : Marking
  pub timers : List Timer

abbrev pub moment : State → Moment
moment s = record { clock = s.clock; counts = s.counts; timers = s.timers }

-- "clock 0, the initial counts, no timer"
abbrev pub start : Net → Moment
start n = record { clock = zero64; counts = initial_counts n; timers = [] }

-- ---- what an entry leaves

abbrev pub clock_after : Float → Entry → Float
clock_after t (reading u) = u
clock_after t (started j) = t
clock_after t (completed j) = t
clock_after t (fired j) = t

-- the timers: a start "sets a timer to t + delay", a completion "ends its timer", which is the first, a firing "touches no timer"
abbrev pub timers_after : Net → Float → List Timer → Entry → List Timer
timers_after n t q (reading u) = q
timers_after n t q (started j) = insert (timer_of t j (transition n j)) q
timers_after n t q (completed j) = others q
timers_after n t q (fired j) = q

abbrev pub happen : Net → Moment → Entry → Moment
happen n x e = record { clock = clock_after x.clock e; counts = move n x.counts e; timers = timers_after n x.clock x.timers e }

-- after several entries
abbrev pub moment_after : Net → Moment → List Entry → Moment
moment_after n x [] = x
moment_after n x (e ∷ es) = moment_after n (happen n x e) es

-- ---- the peak

-- all place counts
abbrev pub sum_of : Marking → ℕ
sum_of [] = 0
sum_of (c ∷ cs) = c + sum_of cs

-- the weights taken by each running timer
abbrev pub taken_by_timers : List Timer → ℕ
taken_by_timers [] = 0
taken_by_timers (z ∷ zs) = z.taken + taken_by_timers zs

-- "all place counts plus the weights taken by each running timer"
abbrev pub tokens : Moment → ℕ
tokens x = sum_of x.counts + taken_by_timers x.timers

-- "after every start, completion and firing": the moments that entries make, from the moment x on
abbrev pub moments : Net → Moment → List Entry → List Moment
moments n x [] = []
moments n x (reading t ∷ es) = moments n (happen n x (reading t)) es
moments n x (started j ∷ es) = happen n x (started j) ∷ moments n (happen n x (started j)) es
moments n x (completed j ∷ es) = happen n x (completed j) ∷ moments n (happen n x (completed j)) es
moments n x (fired j ∷ es) = happen n x (fired j) ∷ moments n (happen n x (fired j)) es

-- the largest of a number and the tokens at these moments
abbrev pub largest : ℕ → List Moment → ℕ
largest most [] = most
largest most (x ∷ xs) = largest (max most (tokens x)) xs

-- a peak so far, and what entries from the moment x on make of it
abbrev pub peak_from : Net → ℕ → Moment → List Entry → ℕ
peak_from n most x es = largest most (moments n x es)

-- the peak of entries from the start on, which is a moment itself
abbrev pub peak_of : Net → List Entry → ℕ
peak_of n es = peak_from n (tokens (start n)) (start n) es
