-- Order 7. An entry of a run leaves the weight at a moment as it was: a start moves its inputs' weight from the places to its timer, a completion puts as much as
-- its timer's inputs weigh, a firing puts as much as it takes. So the weight after any entries of a run is that of the moment from which it goes.
use Prim.Native.Nat.{ℕ, zero, suc, ◌+◌, ◌<◌}
use native.Mathlib.Nat.{zero-mul}
use mathlib.Core.Path.{◌≡◌, refl, sym, ap, ◌∙◌, subst}
use mathlib.Core.Bool.{Bool, true, false, ◌&&◌}
use mathlib.Core.Logic.{◌⊎◌, inl, inr}
use mathlib.Core.List.{List, [], ◌∷◌, ◌++◌}
use mathlib.Core.Option.{none, some}
use native.Mathlib.Omega.{arith}
use native.Mathlib.Decide.{dec_lt}
use lib.Dec.{eqb}
use lib.ListN.{get_or, length, length-map, get_or-eq_default}
use lib.Ieee.{Float, le}
use borrow.Author.Tests.{eqb-true, eq-eqb}
use Rattle.net.specs.Net.{Place, Arc, Take, Transition, Net, Marking, pick}
use Rattle.rng.specs.State.{State as Generator}
use Rattle.rules.specs.Timers.{Timer, timer_of, insert, others}
use Rattle.rules.specs.Moves.{Entry, reading, started, completed, fired, without_arcs, transition, taking, putting, move, after, initial_counts}
use Rattle.rules.specs.Step.{State, refused, given}
use Rattle.rules.specs.Moments.{Moment, moment, start, happen, moment_after}
use Rattle.rules.specs.Run.{End, spent, run_within, beginning, entries, trace}
use Rattle.rules.specs.Shown.{before, last_of, run_of}
use Rattle.rules.specs.Demand3.{places_once, takes_once, Allowed, EachAllowed}
use Rattle.rules.specs.Balance.{weight_at, takes_weigh, puts_weigh, even, all_even, balanced, first_uneven, unbalanced, some_above1000, balance, counts_weigh, timers_weigh, weight_of, starts_of, completions_of, running_of, AllCompleted, Conserved}
use Rattle.rules.proofs.Order.{both}
use Rattle.rules.proofs.Counts.{move_length, taking_length, covered, once_each}
use Rattle.rules.proofs.Weighing.{weigh, weigh_takes, weigh_puts, weigh_taking, weigh_putting, Inside, over_timers, over_insert}
use Rattle.rules.proofs.Allowing.{given_same, refused_given, moment_counts, FirstIs, Due, EachDue}
use Rattle.rules.proofs.Runs.{Goes, run_goes}

-- ---- the list of weights as a function of the place

weigh_list : (ws : List ℕ) (m : Marking) → weigh (weight_at ws) m ≡ counts_weigh ws m
weigh_list [] [] = refl
weigh_list [] (c ∷ cs) = omega (arith, weigh_list [] cs, zero-mul c)
weigh_list (w ∷ ws) [] = refl
weigh_list (w ∷ ws) (c ∷ cs) = omega (arith, weigh_list ws cs)

takes_list : (ws : List ℕ) (ks : List Take) → weigh_takes (weight_at ws) ks ≡ takes_weigh ws ks
takes_list ws [] = refl
takes_list ws (k ∷ ks) = omega (arith, takes_list ws ks)

puts_list : (ws : List ℕ) (arcs : List Arc) → weigh_puts (weight_at ws) arcs ≡ puts_weigh ws arcs
puts_list ws [] = refl
puts_list ws (a ∷ rest) = omega (arith, puts_list ws rest)

timers_list : (n : Net) (ws : List ℕ) (q : List Timer) → over_timers (λ (z : Timer). takes_weigh ws (transition n z.who).takes) q ≡ timers_weigh n ws q
timers_list n ws [] = refl
timers_list n ws (z ∷ zs) = omega (arith, timers_list n ws zs)

running_list : (j : ℕ) (q : List Timer) → over_timers (λ (z : Timer). pick (eqb z.who j) 1 0) q ≡ running_of j q
running_list j [] = refl
running_list j (z ∷ zs) = omega (arith, running_list j zs)

-- a place beyond the list weighs nothing
beyond_list : (ws : List ℕ) (k : ℕ) → length ws ≡ k → (arcs : List Arc) → Inside (weight_at ws) k arcs
beyond_list ws k e [] = tt
beyond_list ws k e (a ∷ rest) = (go (dec_lt a.place k), beyond_list ws k e rest)
  where
    go : Dec (a.place < k) → (a.place < k) ⊎ (weight_at ws a.place ≡ 0)
    go (yes h) = inl h
    go (no h) = inr (get_or-eq_default ws 0 {n = a.place} (omega arith))

-- ---- what the answer says

pub each_even : (ws : List ℕ) (ts : List Transition) → all_even ws ts ≡ true → (j : ℕ)
    → puts_weigh ws (get_or ts j without_arcs).puts ≡ takes_weigh ws (get_or ts j without_arcs).takes
each_even ws [] h j = refl
each_even ws (t ∷ ts) h zero = eqb-true _ _ (both (even ws t) (all_even ws ts) h).0
each_even ws (t ∷ ts) h (suc j) = each_even ws ts (both (even ws t) (all_even ws ts) h).1 j

-- none is given exactly where every transition is balanced
none_uneven : (ws : List ℕ) (i : ℕ) (ts : List Transition) → first_uneven ws i ts ≡ none → all_even ws ts ≡ true
none_uneven ws i [] p = refl
none_uneven ws i (t ∷ ts) p = go (even ws t) p (none_uneven ws (suc i) ts)
  where
    go : (c : Bool) → pick c (first_uneven ws (suc i) ts) (some i) ≡ none → (first_uneven ws (suc i) ts ≡ none → all_even ws ts ≡ true) → c && all_even ws ts ≡ true
    go true q ih = ih q
    go false q ih = absurd (let z : ◌≡◌ {A = ℕ} 0 1 = cc in omega arith)

all_even_lem : (ws : List ℕ) (i : ℕ) (ts : List Transition) → all_even ws ts ≡ true → first_uneven ws i ts ≡ none
all_even_lem ws i [] p = refl
all_even_lem ws i (t ∷ ts) p = let w : (even ws t ≡ true) × (all_even ws ts ≡ true) = both (even ws t) (all_even ws ts) p in rw w.0 (all_even_lem ws (suc i) ts w.1)

pub none_balanced : (n : Net) (ws : List ℕ) → unbalanced n ws ≡ none → balanced n ws ≡ true
none_balanced n ws p = none_uneven ws 0 n.transitions p

pub balanced_none : (n : Net) (ws : List ℕ) → balanced n ws ≡ true → unbalanced n ws ≡ none
balanced_none n ws p = all_even_lem ws 0 n.transitions p

-- the transition that is given is unbalanced, and each one before it is balanced
pub record Lowest (ws : List ℕ) (ts : List Transition) (j : ℕ) : Type 0 where
  pub one : j < length ts
  pub uneven : even ws (get_or ts j without_arcs) ≡ false
  pub lower : (i : ℕ) → i < j → even ws (get_or ts i without_arcs) ≡ true

lowest_from : (ws : List ℕ) (i : ℕ) (ts : List Transition) (j : ℕ) → first_uneven ws i ts ≡ some j → (d : ℕ) × (j ≡ i + d) × Lowest ws ts d
lowest_from ws i [] j p = absurd (let z : ◌≡◌ {A = ℕ} 0 1 = cc in omega arith)
lowest_from ws i (t ∷ ts) j p = go (even ws t) refl p (lowest_from ws (suc i) ts j)
  where
    go : (c : Bool) → even ws t ≡ c → pick c (first_uneven ws (suc i) ts) (some i) ≡ some j
        → (first_uneven ws (suc i) ts ≡ some j → (d : ℕ) × (j ≡ suc i + d) × Lowest ws ts d) → (d : ℕ) × (j ≡ i + d) × Lowest ws (t ∷ ts) d
    go false e q ih = (0, (let h : i ≡ j = cc in omega arith), record { one = omega arith; uneven = e; lower = λ k l. absurd (omega arith) })
    go true e q ih =
        let r : (d : ℕ) × (j ≡ suc i + d) × Lowest ws ts d = ih q in
        let h : j ≡ suc i + r.0 = r.1 in
        let l : r.0 < length ts = r.2.one in
        (suc r.0, omega arith, record { one = omega arith; uneven = r.2.uneven; lower = below r.0 r.2.lower })
      where
        below : (d : ℕ) → ((k : ℕ) → k < d → even ws (get_or ts k without_arcs) ≡ true) → (k : ℕ) → k < suc d → even ws (get_or (t ∷ ts) k without_arcs) ≡ true
        below d f zero l = e
        below d f (suc k) l = f k (omega arith)

pub lowest_unbalanced : (n : Net) (ws : List ℕ) (j : ℕ) → unbalanced n ws ≡ some j → Lowest ws n.transitions j
lowest_unbalanced n ws j p =
    let r : (d : ℕ) × (j ≡ 0 + d) × Lowest ws n.transitions d = lowest_from ws 0 n.transitions j p in
    let h : r.0 ≡ j = omega (arith, r.1) in
    subst (Lowest ws n.transitions) h r.2

-- ---- an entry leaves the weight as it was

module _ (n : Net) (ws : List ℕ) (once : (j : ℕ) → places_once (transition n j).takes ≡ true) (balance : balanced n ws ≡ true) where
  as_much : (j : ℕ) → puts_weigh ws (transition n j).puts ≡ takes_weigh ws (transition n j).takes
  as_much j = each_even ws n.transitions balance j

  took : (m : Marking) (j : ℕ) → Allowed n m (started j) → counts_weigh ws (taking m (transition n j).takes) + takes_weigh ws (transition n j).takes ≡ counts_weigh ws m
  took m j a =
      omega (
        arith,
        weigh_taking (weight_at ws) (transition n j).takes m (once j) (covered n m j a),
        weigh_list ws m,
        weigh_list ws (taking m (transition n j).takes),
        takes_list ws (transition n j).takes,
      )

  put : (m : Marking) (j : ℕ) → length ws ≡ length m → counts_weigh ws (putting m (transition n j).puts) ≡ counts_weigh ws m + takes_weigh ws (transition n j).takes
  put m j l =
      omega (
        arith,
        weigh_putting (weight_at ws) (transition n j).puts m (beyond_list ws (length m) l (transition n j).puts),
        weigh_list ws m,
        weigh_list ws (putting m (transition n j).puts),
        puts_list ws (transition n j).puts,
        as_much j,
      )

  set_timer : (z : Timer) (q : List Timer) → timers_weigh n ws (insert z q) ≡ takes_weigh ws (transition n z.who).takes + timers_weigh n ws q
  set_timer z q =
      omega (arith, over_insert (λ (y : Timer). takes_weigh ws (transition n y.who).takes) z q, timers_list n ws (insert z q), timers_list n ws q)

  ended : (q : List Timer) (j : ℕ) → FirstIs q j → timers_weigh n ws q ≡ takes_weigh ws (transition n j).takes + timers_weigh n ws (others q)
  ended [] j f = absurd f
  ended (z ∷ q) j f = rw f

  entry_weight : (x : Moment) (e : Entry) → length ws ≡ length x.counts → Allowed n x.counts e → Due n x e → weight_of n ws (happen n x e) ≡ weight_of n ws x
  entry_weight x (reading t) l a d = refl
  entry_weight x (started j) l a d = omega (arith, took x.counts j a, set_timer (timer_of x.clock j (transition n j)) x.timers)
  entry_weight x (completed j) l a d = omega (arith, put x.counts j l, ended x.timers j d)
  entry_weight x (fired j) l a d =
      let m : Marking = taking x.counts (transition n j).takes in
      omega (arith, took x.counts j a, put m j (l ∙ sym (taking_length (transition n j).takes x.counts)))

  pub entries_weight : (es : List Entry) (x : Moment) → length ws ≡ length x.counts → EachAllowed n x.counts es → EachDue n x es
      → weight_of n ws (moment_after n x es) ≡ weight_of n ws x
  entries_weight [] x l a d = refl
  entries_weight (e ∷ es) x l a d =
      entries_weight es (happen n x e) (l ∙ sym (move_length n x.counts e)) a.1 d.1 ∙ entry_weight x e l a.0 d.0

-- ---- running timers

running_after : (n : Net) (j : ℕ) (es : List Entry) (x : Moment) → EachDue n x es
    → starts_of j es + running_of j x.timers ≡ completions_of j es + running_of j (moment_after n x es).timers
running_after n j [] x d = refl
running_after n j (reading t ∷ es) x d = running_after n j es (happen n x (reading t)) d.1
running_after n j (started i ∷ es) x d =
    let z : Timer = timer_of x.clock i (transition n i) in
    omega (
      arith,
      running_after n j es (happen n x (started i)) d.1,
      over_insert (λ (y : Timer). pick (eqb y.who j) 1 0) z x.timers,
      running_list j (insert z x.timers),
      running_list j x.timers,
    )
running_after n j (completed i ∷ es) x d = omega (arith, running_after n j es (happen n x (completed i)) d.1, first_left x.timers d.0)
  where
    first_left : (q : List Timer) → FirstIs q i → running_of j q ≡ pick (eqb i j) 1 0 + running_of j (others q)
    first_left [] f = absurd f
    first_left (z ∷ q) f = rw f
running_after n j (fired i ∷ es) x d = running_after n j es (happen n x (fired i)) d.1

-- ---- the first part of what is allowed and due

allowed_past : (n : Net) (es fs : List Entry) (m : Marking) → EachAllowed n m (es ++ fs) → EachAllowed n m es
allowed_past n [] fs m a = tt
allowed_past n (e ∷ es) fs m a = (a.0, allowed_past n es fs (move n m e) a.1)

due_past : (n : Net) (es fs : List Entry) (x : Moment) → EachDue n x (es ++ fs) → EachDue n x es
due_past n [] fs x d = tt
due_past n (e ∷ es) fs x d = (d.0, due_past n es fs (happen n x e) d.1)

-- what happens before the clock first reaches x is a first part of what happens
before_part : (x : Float) (es : List Entry) → (later : List Entry) × (es ≡ before x es ++ later)
before_part x [] = ([], refl)
before_part x (reading t ∷ es) = go (le x t) (before_part x es)
  where
    go : (c : Bool) → (later : List Entry) × (es ≡ before x es ++ later)
        → (later : List Entry) × (reading t ∷ es ≡ pick c [] (reading t ∷ before x es) ++ later)
    go true r = (reading t ∷ es, refl)
    go false r = (r.0, ap (λ (l : List Entry). reading t ∷ l) r.1)
before_part x (started j ∷ es) = let r = before_part x es in (r.0, ap (λ (l : List Entry). started j ∷ l) r.1)
before_part x (completed j ∷ es) = let r = before_part x es in (r.0, ap (λ (l : List Entry). completed j ∷ l) r.1)
before_part x (fired j ∷ es) = let r = before_part x es in (r.0, ap (λ (l : List Entry). fired j ∷ l) r.1)

-- where none of any transition runs, no timer runs
none_runs : (q : List Timer) → ((j : ℕ) → running_of j q ≡ 0) → q ≡ []
none_runs [] h = refl
none_runs (z ∷ q) h =
    let one : ◌≡◌ {A = ℕ} (pick (eqb z.who z.who) 1 0) 1 = rw (eq-eqb z.who z.who refl) in
    absurd (omega (arith, h z.who))

-- from any state on, so also from one that was carried: the weight stays, whatever it is
pub run_weight : (out : End) (room : ℕ) (n : Net) (ws : List ℕ) → takes_once n.transitions ≡ true → balanced n ws ≡ true
    → (last : Float) (k : ℕ) (s : State) → length ws ≡ length s.counts
    → (past later : List Entry) → entries (run_within out room n last k s) ≡ past ++ later
    → weight_of n ws (moment_after n (moment s) past) ≡ weight_of n ws (moment s)
run_weight out room n ws once b last k s l past later p =
    let g : Goes n (moment s) (run_within out room n last k s) = run_goes out room n last k s in
    entries_weight n ws (once_each n once) b past (moment s) l (allowed_past n past later s.counts (rw p at g.allowed))
    (due_past n past later (moment s) (rw p at g.due))

-- ---- the promise

pub conserving : (n : Net) (ws : List ℕ) → balance n ws ≡ given none → (length ws ≡ length n.places) × (balanced n ws ≡ true)
conserving n ws p = long (eqb (length ws) (length n.places)) refl p
  where
    light : (c : Bool) → pick c (refused 4) (given (unbalanced n ws)) ≡ given none → balanced n ws ≡ true
    light true q = refused_given q
    light false q = none_balanced n ws (given_same q)

    long : (c : Bool) → eqb (length ws) (length n.places) ≡ c → pick c (pick (some_above1000 ws) (refused 4) (given (unbalanced n ws))) (refused 3) ≡ given none
        → (length ws ≡ length n.places) × (balanced n ws ≡ true)
    long true e q = (eqb-true (length ws) (length n.places) e, light (some_above1000 ws) q)
    long false e q = refused_given q

module _ (n : Net) (once : takes_once n.transitions ≡ true) (g : Generator) (xs : List Float) (k : ℕ) where
  goes : Goes n (start n) (run_of n g xs k)
  goes = run_goes spent 256 n (last_of xs) k (beginning n g)

  module _ (past later : List Entry) (p : trace (run_of n g xs k) ≡ past ++ later) where
    due : EachDue n (start n) past
    due = due_past n past later (start n) (subst (EachDue n (start n)) p (tt, goes.due))

    running : (j : ℕ) → starts_of j past ≡ completions_of j past + running_of j (moment_after n (start n) past).timers
    running j = omega (arith, running_after n j past (start n) due)

    weight : (ws : List ℕ) → balance n ws ≡ given none → weight_of n ws (moment_after n (start n) past) ≡ counts_weigh ws (initial_counts n)
    weight ws h =
        let w : (length ws ≡ length n.places) × (balanced n ws ≡ true) = conserving n ws h in
        let a : EachAllowed n (initial_counts n) past =
        allowed_past n past later (initial_counts n) (subst (EachAllowed n (initial_counts n)) p (tt, goes.allowed)) in
        let l : length ws ≡ length (initial_counts n) = w.0 ∙ sym (length-map n.places (λ (q : Place). q.initial)) in
        omega (arith, entries_weight n ws (once_each n once) w.1 past (start n) l a due)

    -- where no timer runs, the counts have the whole weight
    counts_weight : (ws : List ℕ) → balance n ws ≡ given none → AllCompleted past → counts_weigh ws (after n (initial_counts n) past) ≡ counts_weigh ws (initial_counts n)
    counts_weight ws h c =
        let none_left : (moment_after n (start n) past).timers ≡ [] = none_runs _ (λ j. omega (arith, running j, c j)) in
        let counts : (moment_after n (start n) past).counts ≡ after n (initial_counts n) past = moment_counts n (start n) past in
        omega (arith, weight ws h, ap (timers_weigh n ws) none_left, ap (counts_weigh ws) counts)

pub conserved : (n : Net) → takes_once n.transitions ≡ true → Conserved n
conserved n once = record {
  replayed = λ g xs k o p. (goes n once g xs k).left o p;
  running = λ g xs k past later p j. running n once g xs k past later p j;
  weight = λ ws h g xs k past later p. weight n once g xs k past later p ws h;
  shown = λ ws h g xs k x c.
      let r : (later : List Entry) × (trace (run_of n g xs k) ≡ before x (trace (run_of n g xs k)) ++ later) = before_part x (trace (run_of n g xs k)) in
      counts_weight n once g xs k (before x (trace (run_of n g xs k))) r.0 r.1 ws h c;
}
