-- A halted path in 816 words and 257 times, for a caller that reads numbers. Definitions only.
use Rattle.std.specs.Prelude.{ℕ, zero, suc, ◌+◌, ◌-◌, ◌≤◌, ◌<◌, ◌≡◌, List, ltb, length, get_or, take, drop, Float}
use Rattle.net.specs.Net.{Marking, pick, held}
use Rattle.rules.specs.Timers.{Timer}
use Rattle.timers.specs.Queues.{blank}
use Rattle.carried.specs.Timers.{timers_in}

-- ---- as it is read

-- the timers: as many as word 41 says, transitions from word 48 on, taken weights from word 304 on, completion times behind the clock
abbrev pub timers_of : List ℕ → List Float → List Timer
timers_of ws ts = timers_in (drop 1 ts) (take 256 (drop 48 ws)) (take 256 (drop 304 ws)) (get_or ws 41 0)

-- ---- as it is written

-- timer i of a list, and what is written where there is none
abbrev pub timer_at : List Timer → ℕ → Timer
timer_at q i = get_or q i blank

-- word i: the counts from word 0 on, these numbers from word 32 on, the transitions of the timers from word 48 on, their taken weights from word 304 on; 0
-- elsewhere
abbrev pub word_in : Marking → List ℕ → List Timer → ℕ → ℕ
word_in m numbers q i =
    pick (ltb i 32) (held m i)
    (pick (ltb i 42) (get_or numbers (i - 32) 0)
    (pick (ltb i 48) 0
    (pick (ltb i 304) (timer_at q (i - 48)).who
    (pick (ltb i 560) (timer_at q (i - 304)).taken 0))))

-- ys is xs with the first n values put in from cell a on
pub record Put (xs : List ℕ) (a : ℕ) (values : List ℕ) (n : ℕ) (ys : List ℕ) : Type 0 where
  pub long : length ys ≡ length xs
  pub before : (i : ℕ) → i < a → get_or ys i 0 ≡ get_or xs i 0
  pub inside : (i : ℕ) → i < n → get_or ys (a + i) 0 ≡ get_or values i 0
  pub behind : (i : ℕ) → a + n ≤ i → get_or ys i 0 ≡ get_or xs i 0

-- time i: the clock, then the completion times of the timers; +0 elsewhere
abbrev pub time_in : Float → List Timer → ℕ → Float
time_in clock q zero = clock
time_in clock q (suc i) = (timer_at q i).at
