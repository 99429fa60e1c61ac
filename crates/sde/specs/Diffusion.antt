-- A diffusion run: the chemical Langevin equation by Euler and Maruyama, from the net, the request and the path's number alone. Document 01, "001":
-- "`combinations_real`, 20 substeps an interval, negative states set to 0, polar normals with the spare kept". The order is the source's: a
-- transition's noise is added to the state at once, the drift after all of them (docs/DECISIONS).
use Rattle.std.specs.Prelude.{ℕ, zero, suc, ◌-◌, List, [], ◌∷◌, map, eqb, pos, get_or, Float}
use Rattle.std.specs.Float.{nan, binary64}
use Rattle.std.specs.Float.Ieee.{add, sub, mul, div, lt, le, eq}
use Rattle.net.specs.Net.{Place, Arc, Take, Transition, Net, pick, zero64, amount, rate_of}
use Rattle.combinations.specs.Real as Real
use Rattle.root.specs.Root.{root_of}
use Rattle.rules.specs.Propensity.{float}
use Rattle.rules.specs.Step.{Answer, refused, given}
use Rattle.averages.specs.Request.{Request, seed_of, instant}
use Rattle.averages.specs.Request as Request
use Rattle.averages.specs.Tables.{rows_from}
use Rattle.normals.specs.Normal.{Sampler, seeded_sampler, normal}

-- ---- answers

-- goes on with a value, and stops at a refusal
abbrev pub and_then : {A B : Type 0} → Answer A → (A → Answer B) → Answer B
and_then (refused c) f = refused c
and_then (given a) f = f a

-- ---- a transition

-- its net change at place p: 0, less the weight of each take there, then more by that of each put
abbrev pub less_takes : ℕ → Float → List Take → Float
less_takes p d [] = d
less_takes p d (k ∷ ks) = less_takes p (pick (eqb k.place p) (sub binary64 d (float (amount k.weight))) d) ks

abbrev pub plus_puts : ℕ → Float → List Arc → Float
plus_puts p d [] = d
plus_puts p d (a ∷ rest) = plus_puts p (pick (eqb a.place p) (add binary64 d (float (amount a.weight))) d) rest

abbrev pub change : Transition → ℕ → Float
change t p = plus_puts p (less_takes p zero64 t.takes) t.puts

-- the kinetic takes
abbrev pub kinetic_of : List Take → List Take
kinetic_of [] = []
kinetic_of (k ∷ ks) = pick k.kinetic (k ∷ kinetic_of ks) (kinetic_of ks)

abbrev pub at : List Float → ℕ → Float
at x p = get_or x p nan

-- The float that `combinations_real` gives. It refuses nothing here, since in an accepted net a kinetic weight is at most 16.
abbrev pub as_float : Real.Answer → Float
as_float (Real.value v) = v
as_float (Real.refused c) = nan

abbrev pub ways_at : Float → ℕ → Float
ways_at v w = as_float (Real.combinations_real v (pos w))

-- `factored` and `propensity` are those of rules/specs/Propensity at a state of real numbers: the rate times `combinations_real` over kinetic takes, take
-- by take, on top of a; 0 as soon as the product is 0 or below
abbrev pub factored : List Float → Float → List Take → Float
factored x a [] = a
factored x a (k ∷ ks) =
    let b = mul binary64 a (ways_at (at x k.place) (amount k.weight)) in
    pick (le b zero64) zero64 (factored x b ks)

abbrev pub propensity : List Float → Transition → Float
propensity x t = factored x (rate_of t) (kinetic_of t.takes)

-- ---- a substep

-- a float for each place, and the sampler
pub record State : Type 0 where
  pub x : List Float
  pub sampler : Sampler

-- within a substep: the drift of each place so far, beside the state
pub record Going : Type 0 where
  pub x : List Float
  pub drift : List Float
  pub sampler : Sampler

-- each value of a list by its number, counted from p
abbrev pub each_from : (ℕ → Float → Float) → ℕ → List Float → List Float
each_from f p [] = []
each_from f p (v ∷ vs) = f p v ∷ each_from f (suc p) vs

-- the drift more by (change × a) × dt, and the state by change × noise; a place that is not changed stays
abbrev pub drift_by : Float → Float → Float → Float → Float
drift_by d a dt v = pick (eq d zero64) v (add binary64 v (mul binary64 (mul binary64 d a) dt))

abbrev pub noise_by : Float → Float → Float → Float
noise_by d noise v = pick (eq d zero64) v (add binary64 v (mul binary64 d noise))

abbrev pub drifted : Transition → Float → Float → List Float → List Float
drifted t a dt drift = each_from (λ (p : ℕ). drift_by (change t p) a dt) 0 drift

abbrev pub noised : Transition → Float → List Float → List Float
noised t noise x = each_from (λ (p : ℕ). noise_by (change t p) noise) 0 x

-- transition t of propensity a, with the normal draw z: its noise is (root a × root dt) × z
abbrev pub spread : Transition → Float → Float → Going → Sampler → Answer Float → Answer Going
spread t a dt s after (refused c) = refused c
spread t a dt s after (given z) =
    given (record {
      x = noised t (mul binary64 (mul binary64 (root_of a) (root_of dt)) z) s.x;
      drift = drifted t a dt s.drift;
      sampler = after;
    })

-- nothing, and no draw, where the propensity is 0
abbrev pub pushed : Float → Transition → Going → Answer Going
pushed dt t s =
    let a = propensity s.x t in
    let d = normal s.sampler in
    pick (eq a zero64) (given s) (spread t a dt s d.sampler d.answer)

-- transition by transition, each on the state that the one before it left
abbrev pub pushed_all : Float → List Transition → Going → Answer Going
pushed_all dt [] s = given s
pushed_all dt (t ∷ ts) s = and_then (pushed dt t s) (pushed_all dt ts)

abbrev pub begun : State → Going
begun s = record { x = s.x; drift = map (λ (v : Float). zero64) s.x; sampler = s.sampler }

-- the drift is added after all of them; "negative states set to 0"
abbrev pub above_zero : Float → Float
above_zero v = pick (lt v zero64) zero64 v

abbrev pub after_drift : Going → State
after_drift g = record { x = each_from (λ (p : ℕ) (v : Float). above_zero (add binary64 v (at g.drift p))) 0 g.x; sampler = g.sampler }

abbrev pub substep : Net → Float → State → Answer State
substep n dt s = and_then (pushed_all dt n.transitions (begun s)) (λ (g : Going). given (after_drift g))

-- ---- an interval

abbrev pub repeated : ℕ → (State → Answer State) → State → Answer State
repeated zero f s = given s
repeated (suc k) f s = and_then (f s) (repeated k f)

-- "20 substeps an interval", where dt is above 0
unfoldable pub over_interval : Net → Float → State → Answer State
over_interval n dt s = pick (lt zero64 dt) (repeated 20 (substep n dt) s) (given s)

-- ---- a path

-- (last instant − first instant) / (samples − 1), and a twentieth of that
abbrev pub step_of : ℕ → Float → Float
step_of samples horizon =
    let width = Request.interval samples horizon in
    let span = sub binary64 (instant width (samples - 1)) (instant width 0) in
    div binary64 (div binary64 span (float (samples - 1))) (float 20)

-- the states of the places at so many further instants, an interval after the other
abbrev pub further : ℕ → (State → Answer State) → State → Answer (List (List Float))
further zero f s = given []
further (suc k) f s =
    and_then (f s) (λ (u : State). and_then (further k f u) (λ (rest : List (List Float)). given (u.x ∷ rest)))

-- the first instant shows the initial counts, as floats; the sampler starts from the path's seed
abbrev pub first_state : Net → Sampler → State
first_state n s = record { x = map (λ (q : Place). float q.initial) n.places; sampler = s }

-- the state at each of so many instants, from a seed
abbrev pub walked : Net → Float → ℕ → ℕ → Answer (List (List Float))
walked n dt samples seed =
    let s = first_state n (seeded_sampler seed) in
    and_then (further (samples - 1) (over_interval n dt) s) (λ (rest : List (List Float)). given (s.x ∷ rest))

-- path k of a request
abbrev pub worked : Net → Request → ℕ → Answer (List (List Float))
worked n q k = walked n (step_of q.samples q.horizon) q.samples (seed_of q.seed k)

-- the cells of a path over so many places: "place p, instant i at cell p × n + i"
abbrev pub cells_of : ℕ → Answer (List (List Float)) → Answer (List Float)
cells_of places path = and_then path (λ (shown : List (List Float)). given (rows_from at shown 0 places))
