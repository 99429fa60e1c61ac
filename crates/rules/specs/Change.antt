-- The change to another net. Document 02, order 8: the tests of a carried state and of a renaming list, the renaming, and the call that carries a path.
use Rattle.std.specs.Prelude.{ℕ, zero, suc, ◌^◌, Bool, true, false, ◌&&◌, ◌||◌, not, List, [], ◌∷◌, map, eqb, leb, ltb, length, Float}
use Rattle.std.proofs.Math.Option.{Option, none, some}
use Rattle.std.specs.Float.{inf}
use Rattle.std.specs.Float.Ieee.{lt, le, eq, to_unsigned}
use Rattle.refusals.specs as Refusal
use Rattle.net.specs.Net.{Net, pick, zero64, timed}
use Rattle.net.specs.Tests.{Test, first_of, any, twice, or_else}
use Rattle.rules.specs.Propensity.{float}
use Rattle.rules.specs.Timers.{Timer}
use Rattle.rules.specs.Moves.{transition}
use Rattle.rules.specs.Step.{state, Answer, refused, given, counts_fit}
use Rattle.rules.specs.Shown.{instants_fit, limit_fits}
use Rattle.rules.specs.Carried.{Carried, unrecorded, Onward, play_on}

-- ---- the tests of a carried state

-- "a time that is negative or not finite"
abbrev pub time_fits : Float → Bool
time_fits t = le zero64 t && lt t (inf false)

-- "completion times that fall or lie before the clock": timers from the time t on
abbrev pub falls : Float → List Timer → Bool
falls t [] = false
falls t (x ∷ xs) = lt x.at t || falls x.at xs

-- 4: "a carried state with a count outside 0..2^53, a step count above its limit, an order 6 count above the step count, a time that is negative or
-- not finite, completion times that fall or lie before the clock, a timer's taken weight above 16,000,000, or more than 256 timers" (order 10: more
-- than there is room for)
abbrev pub state_strange : ℕ → Carried → Bool
state_strange room c =
    not (counts_fit c.now.counts)
    || ltb c.limit c.steps
    || ltb c.steps c.rounded
    || not (time_fits c.now.clock)
    || any (λ (x : Timer). not (time_fits x.at)) c.now.timers
    || falls c.now.clock c.now.timers
    || any (λ (x : Timer). ltb 16_000_000 x.taken) c.now.timers
    || ltb room (length c.now.timers)

-- 12: "its instants, by the path's rules or where the recorded ones aren't a first part of the list that holds every instant up to the clock"
abbrev pub records_fit : Carried → Bool
records_fit c = leb (length c.recorded) (length c.instants) && not (any (λ (x : Float). le x c.now.clock) (unrecorded c))

-- a cell of the table that is a whole number in 0..2^53 (−0 reads as 0)
abbrev pub cell_fits : Float → Bool
cell_fits x = le zero64 x && le x (float (2 ^ 53)) && eq x (float (to_unsigned 64 x))

-- The tests, in order. The table is the call's: whether it is too short for the old net (11), and whether a recorded cell is no whole number in
-- 0..2^53 (the last 4), is said by two marks.
abbrev pub carried_tests : ℕ → Bool → Bool → Carried → List Test
carried_tests room short strange c =
    (Refusal.outside_domain, state_strange room c)
    ∷ (Refusal.bad_instants, not (instants_fit c.instants) || not (records_fit c))
    ∷ (Refusal.bad_limit, not (limit_fits c.limit))
    ∷ (Refusal.short_table, short)
    ∷ (Refusal.outside_domain, strange)
    ∷ []

-- ---- the renaming list

-- "A renaming list gives pairs of old and new transition numbers"
pub record Pair : Type 0 where
  pub old : ℕ
  pub new : ℕ

-- the new number of transition j, if it is listed
abbrev pub new_number : List Pair → ℕ → Option ℕ
new_number [] j = none
new_number (p ∷ ps) j =
    let further = new_number ps j in
    pick (eqb p.old j) (some p.new) further

-- 21: "a number out of range or listed twice on its side"
abbrev pub list_strange : Net → Net → List Pair → Bool
list_strange old new ps =
    any (λ (p : Pair). leb (length old.transitions) p.old || leb (length new.transitions) p.new) ps
    || twice (map (λ (p : Pair). p.old) ps)
    || twice (map (λ (p : Pair). p.new) ps)

-- 22: "a running timer unlisted or sent to a transition without delay"
abbrev pub sent_wrong : Net → Option ℕ → Bool
sent_wrong new none = true
sent_wrong new (some j) = not (timed (transition new j))

abbrev pub renaming_tests : Net → Net → Carried → List Pair → List Test
renaming_tests old new c ps =
    (Refusal.unequal_places, not (eqb (length old.places) (length new.places)))
    ∷ (Refusal.bad_renaming, list_strange old new ps)
    ∷ (Refusal.bad_timer, any (λ (x : Timer). sent_wrong new (new_number ps x.who)) c.now.timers)
    ∷ []

-- "The identity list"
abbrev pub identity_from : ℕ → ℕ → List Pair
identity_from j zero = []
identity_from j (suc k) = record { old = j; new = j } ∷ identity_from (suc j) k

abbrev pub identity : Net → List Pair
identity n = identity_from 0 (length n.transitions)

-- ---- the change

-- a number, or where there is none another (a timer that is not listed is refused by 22)
abbrev pub number_or : ℕ → Option ℕ → ℕ
number_or j none = j
number_or j (some i) = i

-- "each running timer keeps its completion time and queue order and takes its new number"; its taken weight "goes over with it"
abbrev pub renamed_timer : List Pair → Timer → Timer
renamed_timer ps x = record { at = x.at; who = number_or x.who (new_number ps x.who); taken = x.taken }

abbrev pub renamed : List Pair → Carried → Carried
renamed ps c =
    record {
      now = state c.now.clock c.now.counts (map (renamed_timer ps) c.now.timers) c.now.generator;
      steps = c.steps;
      limit = c.limit;
      peak = c.peak;
      rounded = c.rounded;
      instants = c.instants;
      recorded = c.recorded;
    }

-- ---- the call that carries a path

abbrev pub carry_fault : ℕ → Net → Net → Bool → Bool → Carried → List Pair → Option ℕ
carry_fault room old new short strange c ps = or_else (first_of (carried_tests room short strange c)) (first_of (renaming_tests old new c ps))

abbrev pub unless_fault : Option ℕ → Answer Onward → Answer Onward
unless_fault none a = a
unless_fault (some k) a = refused k

-- "From the change the new net's rules apply, outputs of carried timers included." Both nets are tested before.
abbrev pub carry : ℕ → Net → Net → Bool → Bool → Carried → List Pair → ℕ → Answer Onward
carry room old new short strange c ps named =
    let onward = play_on room new (renamed ps c) named in
    unless_fault (carry_fault room old new short strange c ps) onward

-- The state that a call hands back: "a later 14 or 15 gives the generator back as carried", and "old state … left" where a test refuses
abbrev pub handed_back : Carried → Answer Onward → Carried
handed_back c (refused k) = c
handed_back c (given o) = o.left
