-- What a call is told of the running timers, and what its answer stands for in the rules' words (rules, Step and Jump).
use Rattle.std.specs.Prelude.{ℕ, ◌<◌, ◌≡◌, false, List, length, get_or, Float, Option as Answered, Some, None}
use Rattle.std.proofs.Math.Option.{Option, none, some}
use Rattle.std.specs.Float.{nan, binary64}
use Rattle.std.specs.Float.Ieee.{sub, neg, lt}
use Rattle.net.specs.Net.{zero64, one64}
use Rattle.rng.specs.State.{State as Generator}
use Rattle.rng.specs.Xoshiro.{uniform}
use Rattle.portable_log.specs.Log.{plog}
use Rattle.rules.specs.RunningSums.{LastPositive}
use Rattle.rules.specs.Step as Step
use Rattle.rules.specs.Timers.{Timer, first}
use Rattle.jump.specs.declared.Next.{Next as NextEnum}
use Rattle.jump.specs.declared.Next.TheVariants.{Nothing, Race, Completion}

-- "−plog(1 − x1)", for the x1 that the generator draws next: the waiting time at a total of 1 (rules, Step's `waiting`)
abbrev pub unit_wait : Generator → Float
unit_wait g = neg (plog (sub binary64 one64 (uniform g)))

-- so many timers run, and where one does, the first to leave completes at `at`
pub record Told (timers : List Timer) (running : ℕ) (at : Float) : Type 0 where
  pub many : length timers ≡ running
  pub leads : 0 < running → (first timers).at ≡ at

abbrev pub next_of : NextEnum → Step.Next
next_of Nothing = Step.nothing_left
next_of (Race dt) = Step.race dt
next_of (Completion at) = Step.completion at

-- the transition that a race fires, where there is one
abbrev pub choice_of : Answered ℕ → Option ℕ
choice_of None = none
choice_of (Some j) = some j

-- no propensity is positive
abbrev pub NonePositive : List Float → Type 0
NonePositive xs = (i : ℕ) → i < length xs → lt zero64 (get_or xs i nan) ≡ false

-- the last positive propensity, where one is
abbrev pub FindsLast : List Float → Answered ℕ → Type 0
FindsLast xs None = NonePositive xs
FindsLast xs (Some j) = LastPositive xs j
