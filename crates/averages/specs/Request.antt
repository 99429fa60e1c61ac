-- What an ensemble or a diffusion is asked for, its tests, its seeds and its instants. Document 01, "Ensemble", "Domain" and "Each operation's
-- turn-downs: Ensemble, diffusion".
use Rattle.std.specs.Prelude.{ℕ, zero, suc, ◌+◌, ◌-◌, ◌%◌, ◌^◌, Bool, not, ◌&&◌, List, [], ◌∷◌, ◌==◌, from_bits, nat_le, Float}
use Rattle.std.proofs.Math.Option.{Option}
use Rattle.std.specs.Float.{binary64}
use Rattle.std.specs.Float.Ieee.{mul, div, lt, le}
use Rattle.refusals.specs as Refusal
use Rattle.net.specs.Net.{pick, zero64}
use Rattle.net.specs.Tests.{first_of}
use Rattle.rng.specs.State.{State as Generator}
use Rattle.rng.specs.Splitmix.{seeded}
use Rattle.rules.specs.Propensity.{float}

pub record Request : Type 0 where
  pub samples : ℕ
  pub realizations : ℕ
  pub seed : ℕ
  pub horizon : Float

-- ---- its tests

-- "Samples 2..1,024"
abbrev pub samples_fit : ℕ → Bool
samples_fit n = nat_le 2 n && nat_le n 1024

-- "realizations 1..65,535"
abbrev pub realizations_fit : ℕ → Bool
realizations_fit n = nat_le 1 n && nat_le n 65_535

-- "horizon above 0, at most 2^30"; a NaN is neither
abbrev pub horizon_fits : Float → Bool
horizon_fits h = lt zero64 h && le h (from_bits binary64 0x41D0_0000_0000_0000)

-- "8 samples, 9 realizations, 10 horizon"
abbrev pub request_fault : Request → Option ℕ
request_fault q =
    first_of ((Refusal.bad_samples, not (samples_fit q.samples))
    ∷ (Refusal.bad_realizations, not (realizations_fit q.realizations))
    ∷ (Refusal.bad_horizon, not (horizon_fits q.horizon))
    ∷ [])

-- "11 any of the mean, deviation and path tables too short": the tables' lengths, and how many cells the answer takes
abbrev pub tables_fault : ℕ → ℕ → ℕ → ℕ → Option ℕ
tables_fault cells mean deviation path =
    first_of ((Refusal.short_table, not (nat_le cells mean && nat_le cells deviation && nat_le cells path)) ∷ [])

-- ---- its paths

-- "Path k, counted from 0, starts from base + k modulo 2^64; the base is the seed, or 1 for seed 0"
abbrev pub seed_of : ℕ → ℕ → ℕ
seed_of seed k = (pick (seed == 0) 1 seed + k) % 2 ^ 64

abbrev pub generator_of : Request → ℕ → Generator
generator_of q k = seeded (seed_of q.seed k)

-- "horizon / (samples − 1)"
abbrev pub interval : ℕ → Float → Float
interval samples horizon = div binary64 horizon (float (samples - 1))

-- "Grid instant i is i × (horizon / (samples − 1))", at that interval
abbrev pub instant : Float → ℕ → Float
instant width i = mul binary64 (float i) width

-- k instants from number i on
abbrev pub instants_from : Float → ℕ → ℕ → List Float
instants_from width i zero = []
instants_from width i (suc k) = instant width i ∷ instants_from width (suc i) k

abbrev pub grid : Request → List Float
grid q = instants_from (interval q.samples q.horizon) 0 q.samples
