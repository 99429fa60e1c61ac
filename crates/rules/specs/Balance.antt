-- Subscribers neither made nor lost. Document 02, order 7: weights for the places, which transitions they balance, and what is then promised of every path.
use Rattle.std.specs.Prelude.{ℕ, suc, ◌+◌, ◌*◌, ◌≡◌, Bool, true, false, ◌&&◌, ◌||◌, List, [], ◌∷◌, ◌++◌, eqb, ltb, get_or, length, Float}
use Rattle.std.proofs.Math.Option.{Option, none, some}
use Rattle.refusals.specs as Refusal
use Rattle.net.specs.Net.{Arc, Take, Transition, Net, Marking, pick, amount}
use Rattle.rng.specs.State.{State as Generator}
use Rattle.rules.specs.Timers.{Timer}
use Rattle.rules.specs.Moves.{Entry, reading, started, completed, fired, transition, initial_counts}
use Rattle.rules.specs.Step.{Answer, refused, given}
use Rattle.rules.specs.Moments.{Moment, moment, start, moment_after}
use Rattle.rules.specs.Run.{Outcome, outcome, trace}
use Rattle.rules.specs.Shown.{before, shown_at, run_of}

-- ---- "a list of whole weights …, one per place": the weight of place p

abbrev pub weight_at : List ℕ → ℕ → ℕ
weight_at ws p = get_or ws p 0

-- the weight of what takes take, and of what arcs put
abbrev pub takes_weigh : List ℕ → List Take → ℕ
takes_weigh ws [] = 0
takes_weigh ws (k ∷ ks) = weight_at ws k.place * amount k.weight + takes_weigh ws ks

abbrev pub puts_weigh : List ℕ → List Arc → ℕ
puts_weigh ws [] = 0
puts_weigh ws (a ∷ rest) = weight_at ws a.place * amount a.weight + puts_weigh ws rest

-- ---- what is asked: "whether every transition puts exactly as much weight as it takes"

abbrev pub even : List ℕ → Transition → Bool
even ws t = eqb (puts_weigh ws t.puts) (takes_weigh ws t.takes)

abbrev pub all_even : List ℕ → List Transition → Bool
all_even ws [] = true
all_even ws (t ∷ ts) = even ws t && all_even ws ts

abbrev pub balanced : Net → List ℕ → Bool
balanced n ws = all_even ws n.transitions

-- "the lowest unbalanced transition", among those from number j on
abbrev pub first_uneven : List ℕ → ℕ → List Transition → Option ℕ
first_uneven ws j [] = none
first_uneven ws j (t ∷ ts) =
    let later = first_uneven ws (suc j) ts in
    pick (even ws t) later (some j)

abbrev pub unbalanced : Net → List ℕ → Option ℕ
unbalanced n ws = first_uneven ws 0 n.transitions

-- "whole weights from 0 to 1,000"
abbrev pub some_above1000 : List ℕ → Bool
some_above1000 [] = false
some_above1000 (w ∷ ws) = ltb 1000 w || some_above1000 ws

-- None where the list balances the net, or the lowest unbalanced transition. "A list with another length than the place count is refused by 3, then a weight
-- above 1,000 by 4."
abbrev pub balance : Net → List ℕ → Answer (Option ℕ)
balance n ws =
    let weighed = pick (some_above1000 ws) (refused Refusal.outside_domain) (given (unbalanced n ws)) in
    pick (eqb (length ws) (length n.places)) weighed (refused Refusal.no_such_place)

-- ---- the weight at a moment

-- "the weighted place counts"
abbrev pub counts_weigh : List ℕ → Marking → ℕ
counts_weigh [] m = 0
counts_weigh (w ∷ ws) [] = 0
counts_weigh (w ∷ ws) (c ∷ cs) = w * c + counts_weigh ws cs

-- "the weighted inputs of the running timers"
abbrev pub timers_weigh : Net → List ℕ → List Timer → ℕ
timers_weigh n ws [] = 0
timers_weigh n ws (z ∷ zs) = takes_weigh ws (transition n z.who).takes + timers_weigh n ws zs

abbrev pub weight_of : Net → List ℕ → Moment → ℕ
weight_of n ws x = counts_weigh ws x.counts + timers_weigh n ws x.timers

-- ---- how often transition j has started and completed, and how many of its timers run

abbrev pub starts_of : ℕ → List Entry → ℕ
starts_of j [] = 0
starts_of j (reading t ∷ es) = starts_of j es
starts_of j (started i ∷ es) = pick (eqb i j) 1 0 + starts_of j es
starts_of j (completed i ∷ es) = starts_of j es
starts_of j (fired i ∷ es) = starts_of j es

abbrev pub completions_of : ℕ → List Entry → ℕ
completions_of j [] = 0
completions_of j (reading t ∷ es) = completions_of j es
completions_of j (started i ∷ es) = completions_of j es
completions_of j (completed i ∷ es) = pick (eqb i j) 1 0 + completions_of j es
completions_of j (fired i ∷ es) = completions_of j es

abbrev pub running_of : ℕ → List Timer → ℕ
running_of j [] = 0
running_of j (z ∷ zs) = pick (eqb z.who j) 1 0 + running_of j zs

-- no timer runs: of each transition as many timers have completed as were started
abbrev pub AllCompleted : List Entry → Type 0
AllCompleted es = (j : ℕ) → starts_of j es ≡ completions_of j es

-- ---- the promise

-- A moment of a path call stands between two parts of its trace, what has happened and what is still to come: it is what the first part replays. (The sentences
-- hold of a call that is refused on its way too, up to there.)
pub record Conserved (n : Net) : Type 0 where
  -- replayed to the end, it is the state that the run leaves
  pub replayed : (g : Generator) (xs : List Float) (k : ℕ) (o : Outcome) → outcome (run_of n g xs k) ≡ given o
      → moment_after n (start n) (trace (run_of n g xs k)) ≡ moment o.left
  -- the running timers at a moment are those started and not yet completed, of each transition
  pub running : (g : Generator) (xs : List Float) (k : ℕ) (past later : List Entry) → trace (run_of n g xs k) ≡ past ++ later
      → (j : ℕ) → starts_of j past ≡ completions_of j past + running_of j (moment_after n (start n) past).timers
  -- "If yes, … at every moment of any accepted path the weighted place counts plus the weighted inputs of the running timers equal the weighted initial counts"
  pub weight : (ws : List ℕ) → balance n ws ≡ given none
      → (g : Generator) (xs : List Float) (k : ℕ) (past later : List Entry) → trace (run_of n g xs k) ≡ past ++ later
      → weight_of n ws (moment_after n (start n) past) ≡ counts_weigh ws (initial_counts n)
  -- what follows for the counts shown: at an instant where no timer runs they weigh what the initial counts do
  pub shown : (ws : List ℕ) → balance n ws ≡ given none
      → (g : Generator) (xs : List Float) (k : ℕ) (x : Float) → AllCompleted (before x (trace (run_of n g xs k)))
      → counts_weigh ws (shown_at n (trace (run_of n g xs k)) x) ≡ counts_weigh ws (initial_counts n)
