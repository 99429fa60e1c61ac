-- What a path call answers of a run that its loop has played. Document 01, "000"; document 02, order 8.
use Rattle.std.specs.Prelude.{ℕ, List, Float}
use Rattle.refusals.specs.Number.{number_of}
use Rattle.rng.specs.State.{State as Generator, words}
use Rattle.playing.specs.Ends.{end_of}
use Rattle.playing.specs.declared.PathEnd.{PathEnd}
use Rattle.playing.specs.declared.PathEnd.TheVariants.{Quiet, Spent, Reached, Halted, Refused}
use Rattle.playing.specs.declared.run.Walked.{Walked}
use Rattle.ssa.specs.Path.{Call, turned_down}

-- "Settled are then the instants ≤ some clock reading so far, else all"; halted: "with instants settled as for spent"
abbrev pub settled_at : PathEnd → ℕ → ℕ → ℕ
settled_at Quiet next n = n
settled_at Spent next n = next
settled_at Reached next n = n
settled_at Halted next n = next
settled_at (Refused c) next n = n

-- what a path call answers of a run that ends so, over n instants
abbrev pub told_of : Walked → ℕ → List Float → PathEnd → Call
told_of w n table end =
    record {
      end = end_of end;
      steps = w.steps;
      settled = settled_at end w.next n;
      peak = w.peak;
      rounded = w.rounded;
      generator = words w.rng.s;
      table = table;
    }

-- … with the generator g at its beginning, which a refusal gives back
abbrev pub answer_of : Walked → ℕ → Generator → List Float → PathEnd → Call
answer_of w n g table Quiet = told_of w n table Quiet
answer_of w n g table Spent = told_of w n table Spent
answer_of w n g table Reached = told_of w n table Reached
answer_of w n g table Halted = told_of w n table Halted
answer_of w n g table (Refused c) = turned_down (number_of c) g table
