-- What a path call that names a number of steps, and a carrying call, leave with a caller that reads numbers. Definitions only.
use Rattle.std.specs.Prelude.{ℕ, ◌<◌, ◌≡◌, List, [], ◌∷◌, length, get_or, take, drop, Float}
use Rattle.std.specs.Float.{nan}
use Rattle.rng.specs.State.{words}
use Rattle.rules.specs.Step.{state, Answer, refused, given}
use Rattle.rules.specs.Run.{End}
use Rattle.engine.specs.Engine.{marking}
use Rattle.ssa.specs.Halted.{Standing, Call}
use Rattle.c_face.specs.Layout.{timers_of, word_in, time_in}
use Rattle.c_face.specs.Played.{end_number}

-- ---- a halted path in words and times

-- where it stands, over so many places
abbrev pub standing_in : ℕ → List ℕ → List Float → Standing
standing_in places ws ts =
    record {
      now = state (get_or ts 0 nan) (marking places (take 32 ws)) (timers_of ws ts) (words (take 4 (drop 32 ws)));
      steps = get_or ws 36 0;
      limit = get_or ws 37 0;
      peak = get_or ws 38 0;
      rounded = get_or ws 39 0;
      recorded = get_or ws 40 0;
    }

-- words 32 to 41
abbrev pub numbers_of : Standing → List ℕ
numbers_of s =
    let g = s.now.generator in
    g.s0 ∷ g.s1 ∷ g.s2 ∷ g.s3 ∷ s.steps ∷ s.limit ∷ s.peak ∷ s.rounded ∷ s.recorded ∷ length s.now.timers ∷ []

-- the words and times of a path that stands so
pub record Written (s : Standing) (ws : List ℕ) (ts : List Float) : Type 0 where
  pub each_word : (i : ℕ) → i < 816 → get_or ws i 0 ≡ word_in s.now.counts (numbers_of s) s.now.timers i
  pub each_time : (i : ℕ) → i < 257 → get_or ts i nan ≡ time_in s.now.clock s.now.timers i

-- ---- what a call leaves

-- the end, the steps, the settled instants, the peak and the rounded steps; of a refused call the number and four times 0
abbrev pub told_of : Call → Answer End → List ℕ
told_of c (refused k) = k ∷ 0 ∷ 0 ∷ 0 ∷ 0 ∷ []
told_of c (given e) = end_number (given e) ∷ c.state.steps ∷ c.settled ∷ c.state.peak ∷ c.state.rounded ∷ []

-- a refused call writes neither words nor times
abbrev pub PathLeft : Call → Answer End → List ℕ → List Float → List ℕ → List Float → Type 0
PathLeft c (refused k) ws ts ws' ts' = (ws' ≡ ws) × (ts' ≡ ts)
PathLeft c (given e) ws ts ws' ts' = Written c.state ws' ts'

-- the five numbers and the table are those of the call, and the path is where it leaves it
pub record Left (c : Call) (told ws : List ℕ) (ts : List Float) (ws' : List ℕ) (ts' table : List Float) : Type 0 where
  pub numbers : told ≡ told_of c c.end
  pub path : PathLeft c c.end ws ts ws' ts'
  pub cells : table ≡ c.table
