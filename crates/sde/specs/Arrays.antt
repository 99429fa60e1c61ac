-- What the program's arrays and private answers stand for. The rules of a run are in Diffusion; nothing here adds to them.
use Rattle.std.specs.Prelude.{ℕ, ◌+◌, ◌*◌, ◌<◌, ◌≡◌, List, ◌++◌, ◌≢◌, length, get_or, take, drop, Float, Result, Ok, Err}
use Rattle.std.specs.Float.{nan}
use Rattle.refusals.specs.Number.{number_of}
use Rattle.refusals.specs.declared.Refusal.{Refusal as RefusalEnum}
use Rattle.rules.specs.Step.{Answer, refused, given}
use Rattle.normals.specs.Normal.{sampler_of}
use Rattle.sde.specs.declared.substep.State.{State as StateStruct}
use Rattle.sde.specs.Diffusion.{State, Going, each_from}

-- the state, and the state within a substep; the arrays' first cells are the places
abbrev pub state_of : ℕ → StateStruct → State
state_of places s = record { x = take places s.x; sampler = sampler_of s.sampler }

abbrev pub going_of : ℕ → StateStruct → Going
going_of places s = record { x = take places s.x; drift = take places s.drift; sampler = sampler_of s.sampler }

-- what a run left, or the refusal that stopped it
abbrev pub answered : {A : Type 0} → Result Unit RefusalEnum → A → Answer A
answered (Ok x) a = given a
answered (Err c) a = refused (number_of c)

-- an answer with values in front of its own
abbrev pub preceded : {A : Type 0} → List A → Answer (List A) → Answer (List A)
preceded done (refused c) = refused c
preceded done (given rest) = given (done ++ rest)

-- the first values of an array, each worked over by its number
pub record Mapped (places : ℕ) (f : ℕ → Float → Float) (before after : List Float) : Type 0 where
  pub long : length after ≡ 32
  pub each : take places after ≡ each_from f 0 (take places before)

-- the cells of instant i of n show the values of the places below p, and all others are as they were
pub record Column (n i p : ℕ) (x before after : List Float) : Type 0 where
  pub long : length after ≡ length before
  pub shows : (q : ℕ) → q < p → get_or after (q * n + i) nan ≡ get_or x q nan
  pub rest : (c : ℕ) → ((q : ℕ) → q < p → c ≢ q * n + i) → get_or after c nan ≡ get_or before c nan

-- a table of which only the first cells were touched
pub record Beyond (cells : ℕ) (before after : List Float) : Type 0 where
  pub long : length after ≡ length before
  pub stays : drop cells after ≡ drop cells before
