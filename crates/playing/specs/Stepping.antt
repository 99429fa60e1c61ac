-- What a step of the program is, in the rules' words. The rules of a step are in the crate rules (Step, Run); nothing here adds to them.
use Rattle.std.specs.Prelude.{ℕ, ◌≤◌, ◌<◌, max, ◌≡◌, Bool, true, false, not, List, [], ◌∷◌, ◌⊎◌, take, Float, Option, Some, None}
use Rattle.refusals.specs.declared.Refusal.{Refusal as RefusalEnum}
use Rattle.refusals.specs.declared.Refusal.TheVariants.{TooManyTimers, CountTooLarge}
use Rattle.std.specs.Float.Ieee.{lt}
use Rattle.refusals.specs as Refusal
use Rattle.net.specs.declared.Net.{Net as NetRecord}
use Rattle.net.specs.Net.{Net, pick}
use Rattle.net.specs.Tests.{any, empty}
use Rattle.net.specs.Readable.{readable}
use Rattle.rng.specs.State.{words}
use Rattle.rules.specs.Timers.{Timer}
use Rattle.rules.specs.Change.{time_fits}
use Rattle.rules.specs.Moments.{moment, tokens}
use Rattle.rules.specs.Step as Rule
use Rattle.rules.specs.Step.{State, state, Answer, refused, given, Event, Step, still, sets}
use Rattle.engine.specs.Engine.{Tidy, Counts, marking}
use Rattle.engine.specs.Limits.{Limits}
use Rattle.timers.specs.declared.Ring.{Ring}
use Rattle.timers.specs.Turning.{running, timers_of, Sound}
use Rattle.playing.specs.declared.firing.Change.{Change}
use Rattle.playing.specs.declared.step.Ending.{Ending}
use Rattle.playing.specs.declared.step.Ending.TheVariants.{GoesOn, Quiet, Reached, Refused}
use Rattle.playing.specs.declared.step.Due.{Due}
use Rattle.playing.specs.declared.step.Due.TheVariants.{Nothing, Event as Follows}

-- no timer took more than 16 arcs of 1,000,000 do
abbrev pub Light : List Timer → Type 0
Light [] = Unit
Light (z ∷ q) = (z.taken ≤ 16_000_000) × Light q

-- the arrays of a run hold what they should
pub record Ready (n : NetRecord) (limit counts : List ℕ) (ats : List Float) (owners : List ℕ) (ring : Ring) : Type 0 where
  pub tidy : Tidy n
  pub limits : Limits n limit
  pub small : Counts counts
  pub light : Light (timers_of ats owners ring)
  pub sound : Sound ats owners ring

-- no more timers run than there is room for, which is at most 256
pub record Roomy (room : ℕ) (ring : Ring) : Type 0 where
  pub most : room ≤ 256
  pub few : running ring ≤ room

-- the state that they stand for
abbrev pub state_of : NetRecord → List ℕ → List Float → List ℕ → Ring → Float → List ℕ → State
state_of n counts ats owners ring clock words₄ = state clock (marking n.places counts) (timers_of ats owners ring) (words words₄)

-- what a path that is played on brings with it: counts in bounds, at most 256 timers that are light and in a sound ring, and a clock and completion times that
-- are times
pub record Resumes (counts : List ℕ) (ats : List Float) (owners : List ℕ) (ring : Ring) (clock : Float) : Type 0 where
  pub small : Counts counts
  pub light : Light (timers_of ats owners ring)
  pub sound : Sound ats owners ring
  pub clock_fits : time_fits clock ≡ true
  pub times_fit : any (λ (x : Timer). not (time_fits x.at)) (timers_of ats owners ring) ≡ false

-- its tokens: all place counts plus the weights taken by each running timer
abbrev pub tokens_of : State → ℕ
tokens_of s = tokens (moment s)

-- Where another step is to be taken, the peak so far has the tokens of the state s; or that step starts no timer, and its event is a moment. So starts need not be
-- looked at for the peak: they leave the tokens as they are. (A carried peak may be lower than its tokens.)
abbrev pub Topped : ℕ → Net → Float → ℕ → State → ℕ → Type 0
Topped room n last k s most =
    (tokens_of s ≤ most)
    ⊎ (0 < k → lt s.clock last ≡ true → (b : Bool) (js : List ℕ) (u : State) (e : Answer Event) → Rule.step room n s ≡ given (sets b js u e)
    → (js ≡ []) × ((ev : Event) → e ≡ given ev → empty ev.what ≡ false))

-- the event that ends a step in the state u: the completion of the first timer, or the firing of a race with these propensities and this total
abbrev pub event_of : NetRecord → State → Float → List Float → Bool → Answer Event
event_of n u a0 props completes = pick completes (Rule.complete (readable n) u) (Rule.raced (readable n) u a0 (take n.transitions props))

-- A step up to the clock reading that it sets: nothing left and the state as before, or an event that follows in the state u;
-- `rounded` says whether a0 adds a rounded propensity. The starts js leave no trace in the program.
pub data AdvancedBy (n : NetRecord) (spec : Answer Step) (before u : State) (props : List Float) (a0 : Float) (rounded completes : Bool) : Due → Type 0 where
  nothing : spec ≡ given (still rounded) → u ≡ before → AdvancedBy n spec before u props a0 rounded completes Nothing
  event : (js : List ℕ) → spec ≡ given (sets rounded js u (event_of n u a0 props completes))
      → AdvancedBy n spec before u props a0 rounded completes Follows

-- or refused by 15
abbrev pub Unstarted : Answer Step → Type 0
Unstarted spec = spec ≡ refused Refusal.too_many_timers

-- the event that ends a step: it leaves the state u, with so many tokens, or a count would pass 2^53
pub data EventBy (spec : Answer Event) (u : State) (many : ℕ) : Bool → Type 0 where
  happens : (e : Event) → spec ≡ given e → e.leaves ≡ u → many ≡ tokens_of u → EventBy spec u many true
  too_large : spec ≡ refused Refusal.count_too_large → EventBy spec u many false

-- and the change that the program answers with: none where a count would pass 2^53
abbrev pub ChangedBy : Answer Event → State → Option Change → Type 0
ChangedBy spec u None = EventBy spec u 0 false
ChangedBy spec u (Some x) = EventBy spec u x.tokens true

-- A whole step from the state `before`, with the peak `most` so far. u is the state at its clock reading, whose counts are shown; s is the state that it
-- leaves, with so many tokens and the peak most': where nothing is left, the state before, and nothing was shown. `rounded` says whether its a0 adds a
-- rounded propensity.
pub data StepBy (spec : Answer Step) (before : State) (last : Float) (shows : State → Type 0) (same : Type 0) (most most' many : ℕ) (s : State) (rounded : Bool)
    : Ending → Type 0 where
  goes_further : (js : List ℕ) (u : State) (e : Event) → spec ≡ given (sets rounded js u (given e)) → lt last u.clock ≡ false → shows u → e.leaves ≡ s
      → many ≡ tokens_of s → most' ≡ max most many → StepBy spec before last shows same most most' many s rounded GoesOn
  quiet : spec ≡ given (still rounded) → s ≡ before → same → most' ≡ most → StepBy spec before last shows same most most' many s rounded Quiet
  reached : (js : List ℕ) (e : Answer Event) → spec ≡ given (sets rounded js s e) → lt last s.clock ≡ true → shows s → most' ≡ most
      → StepBy spec before last shows same most most' many s rounded Reached
  starting : spec ≡ refused Refusal.too_many_timers → StepBy spec before last shows same most most' many s rounded (Refused TooManyTimers)
  putting : (js : List ℕ) (u : State) → spec ≡ given (sets rounded js u (refused Refusal.count_too_large)) → lt last u.clock ≡ false
      → StepBy spec before last shows same most most' many s rounded (Refused CountTooLarge)
