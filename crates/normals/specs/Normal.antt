-- Normal draws by the polar method. Document 01, "001": "polar normals with the spare kept"; "Normal draw. 16 as above, sampler as it came".
use Rattle.std.specs.Prelude.{ℕ, zero, suc, Bool, true, false, ◌&&◌, Float, Result, Ok, Err, Option as Answered, Some, None}
use Rattle.std.proofs.Math.Option.{Option, none, some}
use Rattle.std.specs.Float.{binary64}
use Rattle.std.specs.Float.Ieee.{add, sub, mul, div, neg, lt}
use Rattle.refusals.specs as Refusal
use Rattle.refusals.specs.Number.{number_of}
use Rattle.refusals.specs.declared.Refusal.{Refusal as RefusalEnum}
use Rattle.net.specs.Net.{zero64, one64}
use Rattle.rng.specs.State.{State as Generator, words}
use Rattle.rng.specs.Splitmix.{seeded}
use Rattle.rng.specs.Xoshiro.{step, uniform}
use Rattle.portable_log.specs.Log.{plog, two64}
use Rattle.root.specs.Root.{root_of}
use Rattle.rules.specs.Step.{Answer, refused, given}
use Rattle.normals.specs.declared.GaussianSampler.{GaussianSampler}
use Rattle.normals.specs.declared.Normal.{Normal}
use Rattle.normals.specs.declared.Pair.{Pair as PairStruct}

-- ---- a pair

-- 2 × uniform − 1
abbrev pub coordinate : Generator → Float
coordinate g = sub binary64 (mul binary64 two64 (uniform g)) one64

-- two coordinates, drawn one after the other, the sum of their squares, and the generator after them
pub record Pair : Type 0 where
  pub u1 : Float
  pub u2 : Float
  pub sq : Float
  pub generator : Generator

abbrev pub pair_of : Float → Float → Generator → Pair
pair_of u1 u2 g = record { u1 = u1; u2 = u2; sq = add binary64 (mul binary64 u1 u1) (mul binary64 u2 u2); generator = g }

abbrev pub pair : Generator → Pair
pair g = pair_of (coordinate g) (coordinate (step g)) (step (step g))

-- "one normal draw rejects" a pair that is not inside the circle of radius 1, or is its centre
abbrev pub accepted : Float → Bool
accepted sq = lt zero64 sq && lt sq one64

abbrev pub minus_two64 : Float
minus_two64 = neg two64

-- root(−2 × plog(sq) / sq)
abbrev pub scale : Float → Float
scale sq = root_of (div binary64 (mul binary64 minus_two64 (plog sq)) sq)

-- the first accepted of at most k pairs
abbrev pub or_else : Bool → Pair → (Generator → Option Pair) → Option Pair
or_else true p later = some p
or_else false p later = later p.generator

unfoldable pub first_accepted : ℕ → Generator → Option Pair
first_accepted zero g = none
first_accepted (suc k) g = or_else (accepted (pair g).sq) (pair g) (first_accepted k)

-- ---- a draw

-- "the spare is a float beside a flag"
pub record Sampler : Type 0 where
  pub generator : Generator
  pub spare : Float
  pub waiting : Bool

-- the sampler that a seed starts; its spare, which waits for nobody, is +0
abbrev pub seeded_sampler : ℕ → Sampler
seeded_sampler seed = record { generator = seeded seed; spare = zero64; waiting = false }

-- a value, or the number of a refusal; and the sampler after it
pub record Drawn : Type 0 where
  pub answer : Answer Float
  pub sampler : Sampler

-- u1 × scale is the value and u2 × scale the spare that waits; "16 … when one normal draw rejects 128 pairs", the "sampler as it came"
abbrev pub drawn_from : Sampler → Option Pair → Drawn
drawn_from s none = record { answer = refused Refusal.no_normal; sampler = s }
drawn_from s (some p) =
    record {
      answer = given (mul binary64 p.u1 (scale p.sq));
      sampler = record { generator = p.generator; spare = mul binary64 p.u2 (scale p.sq); waiting = true };
    }

-- A spare that waits is handed out, without a draw, and waits no more. Else the pairs of the generator decide.
abbrev pub spare_or : Bool → Sampler → Drawn
spare_or true s = record { answer = given s.spare; sampler = record { generator = s.generator; spare = s.spare; waiting = false } }
spare_or false s = drawn_from s (first_accepted 128 s.generator)

unfoldable pub normal : Sampler → Drawn
normal s = spare_or s.waiting s

-- ---- what the program's sampler and answer say

abbrev pub sampler_of : GaussianSampler → Sampler
sampler_of s = record { generator = words s.rng.s; spare = s.spare; waiting = s.waiting }

abbrev pub answer_of : Result Float RefusalEnum → Answer Float
answer_of (Ok x) = given x
answer_of (Err r) = refused (number_of r)

abbrev pub drawn_of : Normal → Drawn
drawn_of r = record { answer = answer_of r.draw; sampler = sampler_of r.sampler }

-- a draw from a lent sampler: the answer, and the sampler that the caller has after it
abbrev pub answered_by : Result Float RefusalEnum → GaussianSampler → Drawn
answered_by r s = record { answer = answer_of r; sampler = sampler_of s }

-- and what its private answers say
abbrev pub pair_in : PairStruct → Pair
pair_in p = record { u1 = p.u1; u2 = p.u2; sq = p.sq; generator = words p.rng.s }

abbrev pub found_of : Answered PairStruct → Option Pair
found_of None = none
found_of (Some p) = some (pair_in p)
