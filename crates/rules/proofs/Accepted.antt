-- What a net record without a fault gives, as the comparison with Gillespie's rule and order 8 ask it; and counts stay at most 2^53 in every run.
use Prim.Native.Nat.{ℕ, zero, suc, ◌+◌, ◌-◌, ◌*◌, ◌^◌, ◌≤◌, ◌<◌}
use mathlib.Core.Path.{◌≡◌, refl, subst}
use mathlib.Core.Bool.{Bool, true, false, ◌||◌, not}
use mathlib.Core.List.{List, [], ◌∷◌, ◌++◌, map}
use mathlib.Core.Option.{Option, none, some}
use native.Mathlib.Omega.{arith}
use lib.Dec.{eqb, leb, ltb}
use lib.ListN.{length, get_or, set, length-append, length-map}
use lib.Ieee.{Float, nan, binary64, of_bits, add, mul, le}
use borrow.Author.Tests.{leb-true, le-leb, ltb-false}
use Rattle.net.specs.declared.Net.{Net as NetRecord}
use Rattle.net.specs.Net.{Place, Arc, Take, Transition, Net, Marking, pick, zero64, amount, held}
use Rattle.net.specs.Tests.{Test, any, as_arc, arcs, rate_fits, delay_fits, outside, move_tests}
use Rattle.net.specs.Readable.{slots_of, strange, transition, transitions_from, places_from, readable, move_fault, moves_fault, fault}
use Rattle.net.specs.Sound.{Sound}
use Rattle.net.proofs.Sound.{sound}
use Rattle.net.proofs.Lengths.{transitions_length}
use Rattle.rng.specs.State.{State as Generator}
use Rattle.rng.specs.Xoshiro.{step as drawn, uniform}
use Rattle.rules.specs.Propensity.{propensities, total}
use Rattle.rules.specs.Exact.{adds_rounded}
use Rattle.rules.specs.Jump.{chosen}
use Rattle.rules.specs.Timers.{Timer, first, others}
use Rattle.rules.specs.Moves.{Entry, started, completed, fired, without_arcs, transition as transition_of, taking, weight_taken, move, after}
use Rattle.rules.specs.Step.{State, state, Answer, refused, given, Starts, starts, waiting, drawn_for, Next, nothing_left, race, completion, next, Event, counts_fit, event, fire, Step, still, sets, set_clock, go_on, after_starts, step}
use Rattle.rules.specs.Gillespie.{Tested, Accepted, Reached, at_first, after_step}
use Rattle.rules.specs.Halting.{Bounded}
use Rattle.rules.proofs.Order.{both, neither}
use Rattle.rules.proofs.TakesOnce.{neither_fault, none_applies, no_move_fault, none_of}
use Rattle.rules.proofs.Allowing.{leads_counts, starts_lead}

-- ---- the tests

module _ (n : NetRecord) (s : Sound n) where
  tested_from : (k j : ℕ) → j + k ≤ n.transitions → Tested (transitions_from n j k)
  tested_from zero j h = tt
  tested_from (suc k) j h = (s.rate j (omega arith), s.kinetic j (omega arith), tested_from k (suc j) (omega arith))

  initial_from : (k p : ℕ) → p + k ≤ n.places → counts_fit (map (λ (q : Place). q.initial) (places_from n.initial n.capacity p k)) ≡ true
  initial_from zero p h = refl
  initial_from (suc k) p h = rw (le-leb (get_or n.initial p 0) (2 ^ 53) (s.initial p (omega arith))) (initial_from k (suc p) (omega arith))

  accepted_by : Accepted (readable n)
  accepted_by =
      record {
        few = omega (arith, transitions_length n, s.transitions);
        tested = tested_from n.transitions 0 (omega arith);
        initial = initial_from n.places 0 (omega arith);
      }

pub accepted : (n : NetRecord) → fault n ≡ none → Accepted (readable n)
accepted n e = accepted_by n (sound n e)

-- ---- delays, and the weight of all takes

amount_most : (w : ℕ) → w ≤ 1_000_000 → amount w ≤ 1_000_000
amount_most zero h = omega arith
amount_most (suc w) h = h

light : (ks : List Take) → any (λ (a : Arc). ltb 1_000_000 a.weight) (map as_arc ks) ≡ false → weight_taken ks ≤ 1_000_000 * length ks
light [] h = omega arith
light (k ∷ ks) h =
    let w = neither (ltb 1_000_000 k.weight) (any (λ (a : Arc). ltb 1_000_000 a.weight) (map as_arc ks)) h in
    omega (arith, amount_most k.weight (ltb-false 1_000_000 k.weight w.0), light ks w.1)

module _ (n : NetRecord) where
  move_light : (j : ℕ) → move_fault n j ≡ none → weight_taken (transition n j).takes ≤ 16_000_000
  move_light j h =
      let t : Transition = transition n j in
      let f : Arc → Bool = λ (a : Arc). ltb 1_000_000 a.weight in
      let ahead : List Arc = map as_arc t.takes in
      let tests : List Test = move_tests n.places j (strange (slots_of n j)) t in
      let many : ltb 16 (length (arcs t)) ≡ false = (neither (eqb n.places 0 || leb 64 j) (ltb 16 (length (arcs t))) (none_applies tests h 0)).1 in
      let out : outside t ≡ false = (neither (strange (slots_of n j)) (outside t) (none_applies tests h 2)).1 in
      let all : any f (arcs t) ≡ false = (neither (not (rate_fits t.rate) || not (delay_fits t.delay)) (any f (arcs t)) out).1 in
      let mine : any f ahead ≡ false = (none_of f ahead t.puts (none_of f (ahead ++ t.puts) t.reads (none_of f (ahead ++ t.puts ++ t.reads) t.blocks all).0).0).0 in
      omega (
        arith,
        ltb-false 16 (length (arcs t)) many,
        light t.takes mine,
        length-map t.takes as_arc,
        length-append ahead t.puts,
        length-append (ahead ++ t.puts) t.reads,
        length-append (ahead ++ t.puts ++ t.reads) t.blocks,
      )

  moves_light : (k j : ℕ) → moves_fault n j k ≡ none → (i : ℕ) → i < k → weight_taken (get_or (transitions_from n j k) i without_arcs).takes ≤ 16_000_000
  moves_light zero j h i l = absurd (omega arith)
  moves_light (suc k) j h zero l = move_light j (neither_fault (move_fault n j) (moves_fault n (suc j) k) h).0
  moves_light (suc k) j h (suc i) l = moves_light k (suc j) (neither_fault (move_fault n j) (moves_fault n (suc j) k) h).1 i (omega arith)

  all_light : fault n ≡ none → (i : ℕ) → i < n.transitions → weight_taken (get_or (transitions_from n 0 n.transitions) i without_arcs).takes ≤ 16_000_000
  all_light h = moves_light n.transitions 0 (no_move_fault n h)

  delays_from : Sound n → (k j : ℕ) → j + k ≤ n.transitions → (i : ℕ) → i < k
      → le (get_or (transitions_from n j k) i without_arcs).delay (of_bits binary64 0x41D0_0000_0000_0000) ≡ true
  delays_from s zero j h i l = absurd (omega arith)
  delays_from s (suc k) j h zero l =
      (both (le zero64 (get_or n.delay j nan)) (le (get_or n.delay j nan) (of_bits binary64 0x41D0_0000_0000_0000)) (s.delay j (omega arith))).1
  delays_from s (suc k) j h (suc i) l = delays_from s k (suc j) (omega arith) i (omega arith)

-- what order 8 asks
pub bounded : (n : NetRecord) → fault n ≡ none → Bounded (readable n)
bounded n e =
    let s : Sound n = sound n e in
    let k : length (readable n).transitions ≡ n.transitions = transitions_length n in
    record {
      initial = (accepted n e).initial;
      delays = λ j h. delays_from n s n.transitions 0 (omega arith) j (omega arith);
      weights = λ j h. all_light n e j (omega arith);
    }

-- ---- counts that fit

pub fit_held : (m : Marking) → counts_fit m ≡ true → (p : ℕ) → held m p ≤ 2 ^ 53
fit_held [] h p = omega arith
fit_held (c ∷ cs) h zero = leb-true c (2 ^ 53) (both (leb c (2 ^ 53)) (counts_fit cs) h).0
fit_held (c ∷ cs) h (suc p) = fit_held cs (both (leb c (2 ^ 53)) (counts_fit cs) h).1 p

fit_set : (m : Marking) (p v : ℕ) → counts_fit m ≡ true → v ≤ 2 ^ 53 → counts_fit (set m p v) ≡ true
fit_set [] p v h l = refl
fit_set (c ∷ cs) zero v h l = rw (le-leb v (2 ^ 53) l) (both (leb c (2 ^ 53)) (counts_fit cs) h).1
fit_set (c ∷ cs) (suc p) v h l =
    let w = both (leb c (2 ^ 53)) (counts_fit cs) h in
    rw w.0 (fit_set cs p v w.1 l)

pub fit_taking : (ks : List Take) (m : Marking) → counts_fit m ≡ true → counts_fit (taking m ks) ≡ true
fit_taking [] m h = h
fit_taking (k ∷ ks) m h =
    let l = fit_held m h k.place in
    fit_taking ks _ (fit_set m k.place (held m k.place - amount k.weight) h (omega arith))

fit_started : (n : Net) (js : List ℕ) (m : Marking) → counts_fit m ≡ true → counts_fit (after n m (map started js)) ≡ true
fit_started n [] m h = h
fit_started n (j ∷ js) m h = fit_started n js _ (fit_taking (transition_of n j).takes m h)

-- ---- a step

pub starts_fit : (room : ℕ) (n : Net) (s : State) (b : Starts) → starts room n s ≡ given b → counts_fit s.counts ≡ true → counts_fit b.counts ≡ true
starts_fit room n s b p h = rw (← leads_counts (starts_lead room n s.clock s.counts s.timers b p)) (fit_started n b.who s.counts h)

abbrev EventFits : Answer Event → Type 0
EventFits (refused c) = Unit
EventFits (given e) = counts_fit e.leaves.counts ≡ true

abbrev StepFits : Answer Step → Type 0
StepFits (refused c) = Unit
StepFits (given (still b)) = Unit
StepFits (given (sets b js u e)) = EventFits e

event_fits : (n : Net) (u : State) (e : Entry) (q : List Timer) (g : Generator) → EventFits (event n u e q g)
event_fits n u e q g = go (counts_fit (move n u.counts e)) refl
  where
    go : (c : Bool) → counts_fit (move n u.counts e) ≡ c → EventFits (pick c (given (record { what = e ∷ []; leaves = state u.clock (move n u.counts e) q g })) (refused 14))
    go true h = h
    go false h = tt

fire_fits : (n : Net) (u : State) (o : Option ℕ) → counts_fit u.counts ≡ true → EventFits (fire n u o)
fire_fits n u none h = h
fire_fits n u (some j) h = event_fits n u (fired j) u.timers u.generator

go_on_fits : (n : Net) (b : Bool) (js : List ℕ) (v : State) (a0 : Float) (xs : List Float) (x : Next) → counts_fit v.counts ≡ true → StepFits (given (go_on n b js v a0 xs x))
go_on_fits n b js v a0 xs nothing_left h = tt
go_on_fits n b js v a0 xs (race dt) h =
    let u : State = set_clock (add binary64 v.clock dt) v in
    fire_fits n (state u.clock u.counts u.timers (drawn u.generator)) (chosen (mul binary64 (uniform u.generator) a0) xs) h
go_on_fits n b js v a0 xs (completion at) h =
    let u : State = set_clock at v in
    event_fits n u (completed (first u.timers).who) (others u.timers) u.generator

step_fits : (room : ℕ) (n : Net) (s : State) → counts_fit s.counts ≡ true → StepFits (step room n s)
step_fits room n s h = go (starts room n s) (λ b p. starts_fit room n s b p h)
  where
    go : (r : Answer Starts) → ((b : Starts) → r ≡ given b → counts_fit b.counts ≡ true) → StepFits (after_starts n s r)
    go (refused c) k = tt
    go (given b) k =
        let a0 : Float = total (propensities n b.counts) in
        let v : State = state s.clock b.counts b.timers (drawn_for a0 s.generator) in
        go_on_fits n (adds_rounded n b.counts) b.who v a0 (propensities n b.counts) (next a0 s.clock (waiting a0 s.generator) b.timers) (k b refl)

-- ---- a run

pub reached_fit : (room : ℕ) (n : Net) → Accepted n → (g : Generator) {s : State} → Reached room n g s → counts_fit s.counts ≡ true
reached_fit room n a g at_first = a.initial
reached_fit room n a g (after_step {s = s} r p) = subst StepFits p (step_fits room n s (reached_fit room n a g r))
