-- Small nets, worked from the definitions. Each is document 02's order 7 at an edge.
use Prim.Native.Nat.{ℕ}
use mathlib.Core.Path.{◌≡◌, refl}
use mathlib.Core.Bool.{true, false}
use mathlib.Core.List.{List, [], ◌∷◌}
use mathlib.Core.Option.{none, some}
use Rattle.net.specs.Net.{Place, Arc, Take, Transition, Net, zero64, one64}
use Rattle.rules.specs.Step.{refused, given}
use Rattle.rules.specs.Balance.{balance}

abbrev place : Place
place = record { initial = 1; capacity = 0 }

abbrev arc : ℕ → ℕ → Arc
arc p w = record { place = p; weight = w }

abbrev taking : ℕ → ℕ → Take
taking p w = record { place = p; weight = w; kinetic = true }

abbrev quiet : ℕ → ℕ → Take
quiet p w = record { place = p; weight = w; kinetic = false }

abbrev moving : List Take → List Arc → Transition
moving takes puts = record { rate = one64; delay = zero64; takes = takes; puts = puts; reads = []; blocks = [] }

-- three places
abbrev net : List Transition → Net
net ts = record { places = place ∷ place ∷ place ∷ []; transitions = ts }

-- from place 0 to place 1
abbrev pass : Transition
pass = moving (taking 0 1 ∷ []) (arc 1 1 ∷ [])

pub no_transitions : balance (net []) (1 ∷ 2 ∷ 3 ∷ []) ≡ given none
no_transitions = refl

pub passed_on : balance (net (pass ∷ [])) (1 ∷ 1 ∷ 0 ∷ []) ≡ given none
passed_on = refl

pub weighs_more : balance (net (pass ∷ [])) (1 ∷ 2 ∷ 0 ∷ []) ≡ given (some 0)
weighs_more = refl

-- the lowest of two that are not balanced
pub lowest : balance (net (pass ∷ moving [] (arc 0 1 ∷ []) ∷ pass ∷ moving (taking 0 1 ∷ []) [] ∷ [])) (1 ∷ 1 ∷ 1 ∷ []) ≡ given (some 1)
lowest = refl

-- each amount as often as its place weighs; a take that is not kinetic takes too; a place twice among the puts counts twice
pub amounts : balance (net (moving (taking 0 2 ∷ quiet 1 3 ∷ []) (arc 2 1 ∷ arc 2 1 ∷ []) ∷ [])) (1 ∷ 2 ∷ 4 ∷ []) ≡ given none
amounts = refl

-- "weight 0 means 1"
pub weight_0 : balance (net (moving (taking 0 0 ∷ []) (arc 1 1 ∷ []) ∷ moving (taking 0 2 ∷ []) (arc 1 0 ∷ arc 2 0 ∷ []) ∷ [])) (1 ∷ 1 ∷ 1 ∷ []) ≡ given none
weight_0 = refl

-- reads and inhibitors move nothing
pub gates_nothing : balance
    (net (record { rate = one64; delay = zero64; takes = taking 0 1 ∷ []; puts = arc 1 1 ∷ []; reads = arc 2 5 ∷ []; blocks = arc 1 7 ∷ [] } ∷ []))
    (3 ∷ 3 ∷ 9 ∷ [])
    ≡ given none
gates_nothing = refl

-- 1,000 is a weight, 1,001 is none
pub largest : balance (net (pass ∷ [])) (1000 ∷ 1000 ∷ 1000 ∷ []) ≡ given none
largest = refl

pub too_large : balance (net (pass ∷ [])) (0 ∷ 0 ∷ 1001 ∷ []) ≡ refused 4
too_large = refl

-- another length than the place count, and 3 before 4
pub too_short : balance (net (pass ∷ [])) (1 ∷ 1 ∷ []) ≡ refused 3
too_short = refl

pub too_long : balance (net (pass ∷ [])) (1 ∷ 1 ∷ 1 ∷ 1001 ∷ []) ≡ refused 3
too_long = refl

pub no_weights : balance (net []) [] ≡ refused 3
no_weights = refl
