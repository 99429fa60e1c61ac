-- The tests 2 to 7, on places and transitions. Document 01, "Domain" and "Each operation's turn-downs: Net text". They serve the reader of
-- a text, line by line, and every operation that is given a net as data: "tests it first by 2 to 7, in the text's order".
use Rattle.std.specs.Prelude.{ℕ, zero, suc, ◌+◌, ◌^◌, Bool, true, false, ◌&&◌, ◌||◌, not, List, [], ◌∷◌, ◌++◌, map, eqb, leb, ltb, length, Float}
use Rattle.std.proofs.Math.Option.{Option, none, some}
use Rattle.std.specs.Float.{binary64}
use Rattle.std.specs.Float.Ieee.{of_bits, le, eq}
use Rattle.refusals.specs as Refusal
use Rattle.net.specs.Net.{Place, Arc, Take, Transition, pick, zero64, amount, timed}

-- ---- tests in general

-- a refusal's number, and whether it applies
abbrev pub Test : Type 0
Test = ℕ × Bool

-- "Where several apply, the one listed first is given"
abbrev pub first_of : List Test → Option ℕ
first_of [] = none
first_of (t ∷ ts) =
    let further = first_of ts in
    pick t.1 (some t.0) further

abbrev pub any : {A : Type 0} → (A → Bool) → List A → Bool
any f [] = false
any f (a ∷ rest) = f a || any f rest

abbrev pub empty : {A : Type 0} → List A → Bool
empty [] = true
empty (a ∷ rest) = false

-- ---- a place, with so many places before it

-- "Places 1..32"; "Initial and capacity 0..2^53". strange: the line holds a value that no place can have, such as a decimal with a
-- leading zero or over 64 bits.
abbrev pub place_tests : ℕ → Bool → Place → List Test
place_tests before strange q =
    (Refusal.bad_size, leb 32 before)
    ∷ (Refusal.outside_domain, strange || ltb (2 ^ 53) q.initial || ltb (2 ^ 53) q.capacity)
    ∷ []

-- ---- a transition, over so many places, with so many transitions before it

-- all its arcs; of a take, place and weight
abbrev pub as_arc : Take → Arc
as_arc k = record { place = k.place; weight = k.weight }

abbrev pub arcs : Transition → List Arc
arcs t = map as_arc t.takes ++ t.puts ++ t.reads ++ t.blocks

-- 2: "too many … moves or arcs, or no place before the first move". "transitions 0..64, arcs per transition 0..16"
abbrev pub too_many : ℕ → ℕ → Transition → Bool
too_many places before t = eqb places 0 || leb 64 before || ltb 16 (length (arcs t))

-- 3: "place number not below the place count"
abbrev pub no_such_place : ℕ → Transition → Bool
no_such_place places t = any (λ (a : Arc). leb places a.place) (arcs t)

-- "Rate 0 or 2^-100..2^100". −0 equals 0, and a NaN is neither equal to a number nor above or below one.
abbrev pub rate_fits : Float → Bool
rate_fits x = eq x zero64 || (le (of_bits binary64 0x39B0_0000_0000_0000) x && le x (of_bits binary64 0x4630_0000_0000_0000))

-- "delay 0..2^30"
abbrev pub delay_fits : Float → Bool
delay_fits x = le zero64 x && le x (of_bits binary64 0x41D0_0000_0000_0000)

-- 4: "value outside its domain, a NaN included". "Weights 0..1,000,000"
abbrev pub outside : Transition → Bool
outside t = not (rate_fits t.rate) || not (delay_fits t.delay) || any (λ (a : Arc). ltb 1_000_000 a.weight) (arcs t)

-- whether a number stands twice in a list
abbrev pub twice : List ℕ → Bool
twice [] = false
twice (p ∷ ps) = any (eqb p) ps || twice ps

-- 5: "one place twice among the takes"
abbrev pub taken_twice : Transition → Bool
taken_twice t = twice (map (λ (k : Take). k.place) t.takes)

-- 6: "delay above 0 without a take"
abbrev pub delayed_for_nothing : Transition → Bool
delayed_for_nothing t = timed t && empty t.takes

-- 7: "kinetic input weights of one transition total at most 16, weight 0 counted as 1"
abbrev pub kinetic_total : List Take → ℕ
kinetic_total [] = 0
kinetic_total (k ∷ ks) = pick k.kinetic (amount k.weight) 0 + kinetic_total ks

-- strange: the transition holds a value that none can have: in a text a decimal with a leading zero or over 64 bits, or a kinetic mark
-- other than 0 and 1; in data an arc of no known kind
abbrev pub move_tests : ℕ → ℕ → Bool → Transition → List Test
move_tests places before strange t =
    (Refusal.bad_size, too_many places before t)
    ∷ (Refusal.no_such_place, no_such_place places t)
    ∷ (Refusal.outside_domain, strange || outside t)
    ∷ (Refusal.taken_twice, taken_twice t)
    ∷ (Refusal.delay_without_take, delayed_for_nothing t)
    ∷ (Refusal.kinetic_total, ltb 16 (kinetic_total t.takes))
    ∷ []

-- the first fault, or where there is none the one after it
abbrev pub or_else : Option ℕ → Option ℕ → Option ℕ
or_else none later = later
or_else (some c) later = some c

-- the first fault of k things from number j on
abbrev pub fault_from : (ℕ → Option ℕ) → ℕ → ℕ → Option ℕ
fault_from f j zero = none
fault_from f j (suc k) = or_else (f j) (fault_from f (suc j) k)
