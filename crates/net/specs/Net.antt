-- The net as a reader has it: places, and transitions with their arcs. Document 01, "000" and "Domain".
use Rattle.std.specs.Prelude.{ℕ, zero, suc, ◌+◌, Bool, true, false, List, [], ◌∷◌, eqb, get_or, Float}
use Rattle.std.specs.Float.Ieee.{lt, eq}
pub use Rattle.floats.specs.{zero64, one64}

-- capacity 0: no bound
pub record Place : Type 0 where
  pub initial : ℕ
  pub capacity : ℕ

-- an arc that puts, reads or blocks (an inhibitor), its weight as written
pub record Arc : Type 0 where
  pub place : ℕ
  pub weight : ℕ

-- an arc that takes (an input); a kinetic one enters the propensity
pub record Take : Type 0 where
  pub place : ℕ
  pub weight : ℕ
  pub kinetic : Bool

pub record Transition : Type 0 where
  pub rate : Float
  pub delay : Float
  pub takes : List Take
  pub puts : List Arc
  pub reads : List Arc
  pub blocks : List Arc

pub record Net : Type 0 where
  pub places : List Place
  pub transitions : List Transition

-- the first of two where a test holds, else the second
abbrev pub pick : {A : Type 0} → Bool → A → A → A
pick true a b = a
pick false a b = b

-- what k numbers have, from number j on
abbrev pub numbered : {A : Type 0} → (ℕ → A) → ℕ → ℕ → List A
numbered f j zero = []
numbered f j (suc k) = f j ∷ numbered f (suc j) k

-- "weight 0 means 1"
abbrev pub amount : ℕ → ℕ
amount zero = 1
amount (suc w) = suc w

-- a transition with delay > 0 runs by a timer; "−0 reads as 0", so a delay of −0 is none
abbrev pub timed : Transition → Bool
timed t = lt zero64 t.delay

-- "Rate 0 means 1 …; a transition with delay > 0 has rate 0". −0 equals 0, so it means 1 too.
abbrev pub rate_of : Transition → Float
rate_of t = pick (timed t) zero64 (pick (eq t.rate zero64) one64 t.rate)

-- the counts of the places, in place order
abbrev pub Marking : Type 0
Marking = List ℕ

abbrev pub held : Marking → ℕ → ℕ
held m p = get_or m p 0

-- All that arcs move at place p. The net change of a transition there is what its puts move less what its takes move; it is above 0
-- where the first is larger.
abbrev pub moved : List Arc → ℕ → ℕ
moved [] p = 0
moved (a ∷ rest) p = pick (eqb a.place p) (amount a.weight) 0 + moved rest p

abbrev pub taken_by : List Take → ℕ → ℕ
taken_by [] p = 0
taken_by (k ∷ ks) p = pick (eqb k.place p) (amount k.weight) 0 + taken_by ks p
