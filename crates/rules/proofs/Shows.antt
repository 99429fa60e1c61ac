-- What a path call shows are counts of at most 2^53, so that the float in its table is the count itself: instants are recorded where the clock is read or at the
-- end; the initial counts fit, starts only take, and an event that would leave a count above 2^53 is refused.
use Prim.Native.Nat.{ℕ, zero, suc, ◌^◌, ◌≤◌}
use mathlib.Core.Path.{◌≡◌, refl, sym, subst}
use mathlib.Core.Bool.{Bool, true, false}
use mathlib.Core.List.{List, [], ◌∷◌, ◌++◌, map, append_assoc}
use mathlib.Core.Option.{Option, none, some}
use lib.ListN.{get_or}
use lib.Ieee.{Float, binary64, add, mul, lt, le}
use Rattle.net.specs.declared.Net.{Net as NetRecord}
use Rattle.net.specs.Net.{Net, Marking, pick}
use Rattle.net.specs.Readable.{readable, fault}
use Rattle.rng.specs.State.{State as Generator}
use Rattle.rng.specs.Xoshiro.{step as drawn, uniform}
use Rattle.rules.specs.Propensity.{propensities, total}
use Rattle.rules.specs.Exact.{adds_rounded}
use Rattle.rules.specs.Jump.{chosen}
use Rattle.rules.specs.Timers.{Timer, first, others}
use Rattle.rules.specs.Moves.{Entry, reading, started, completed, fired, move, after, initial_counts}
use Rattle.rules.specs.Step.{State, state, Answer, refused, given, Starts, starts, waiting, drawn_for, Next, nothing_left, race, completion, next, Event, counts_fit, event, fire, Step, still, sets, set_clock, go_on, after_starts, step}
use Rattle.rules.specs.Run.{End, spent, reached, ends, steps, concluded, stepped, run_within, entries, beginning, trace}
use Rattle.rules.specs.Shown.{before, shown_from, shown_at, last_of, Path, run_of, accepted_path}
use Rattle.rules.specs.Demand3.{count}
use Rattle.rules.proofs.Allowing.{leads_counts, starts_lead}
use Rattle.rules.proofs.Accepted.{accepted, fit_held, starts_fit}
use Rattle.rules.proofs.Demand3Held.{answered}

-- ---- entries from the counts m on: the counts fit at every reading and at the end

abbrev ReadFit : Net → Marking → List Entry → Type 0
ReadFit n m [] = counts_fit m ≡ true
ReadFit n m (reading t ∷ es) = (counts_fit m ≡ true) × ReadFit n m es
ReadFit n m (started j ∷ es) = ReadFit n (move n m (started j)) es
ReadFit n m (completed j ∷ es) = ReadFit n (move n m (completed j)) es
ReadFit n m (fired j ∷ es) = ReadFit n (move n m (fired j)) es

-- so they fit where the clock first reaches x
fit_before : (n : Net) (x : Float) (es : List Entry) (m : Marking) → ReadFit n m es → counts_fit (after n m (before x es)) ≡ true
fit_before n x [] m h = h
fit_before n x (reading t ∷ es) m h = go (le x t) (fit_before n x es m h.1)
  where
    go : (c : Bool) → counts_fit (after n m (before x es)) ≡ true → counts_fit (after n m (pick c [] (reading t ∷ before x es))) ≡ true
    go true k = h.0
    go false k = k
fit_before n x (started j ∷ es) m h = fit_before n x es _ h
fit_before n x (completed j ∷ es) m h = fit_before n x es _ h
fit_before n x (fired j ∷ es) m h = fit_before n x es _ h

started_on : (n : Net) (js : List ℕ) (es : List Entry) (m : Marking) → ReadFit n (after n m (map started js)) es → ReadFit n m (map started js ++ es)
started_on n [] es m h = h
started_on n (j ∷ js) es m h = started_on n js es _ h

-- ---- one step

-- an event in the state u: it leaves counts that fit, and what follows it follows from there
record EventOn (n : Net) (u : State) (ev : Event) : Type 0 where
  fit : counts_fit ev.leaves.counts ≡ true
  on : (es : List Entry) → ReadFit n ev.leaves.counts es → ReadFit n u.counts (ev.what ++ es)

abbrev EventReads : Net → State → Answer Event → Type 0
EventReads n u (refused c) = Unit
EventReads n u (given ev) = EventOn n u ev

record StepOn (n : Net) (s : State) (js : List ℕ) (u : State) (e : Answer Event) : Type 0 where
  to : after n s.counts (map started js) ≡ u.counts
  fit : counts_fit u.counts ≡ true
  event : EventReads n u e

abbrev StepReads : Net → State → Answer Step → Type 0
StepReads n s (refused c) = Unit
StepReads n s (given (still b)) = Unit
StepReads n s (given (sets b js u e)) = StepOn n s js u e

completed_reads : (n : Net) (u : State) (j : ℕ) (q : List Timer) (g : Generator) → EventReads n u (event n u (completed j) q g)
completed_reads n u j q g = go (counts_fit (move n u.counts (completed j))) refl
  where
    go : (c : Bool) → counts_fit (move n u.counts (completed j)) ≡ c
        → EventReads n u (pick c (given (record { what = completed j ∷ []; leaves = state u.clock (move n u.counts (completed j)) q g })) (refused 14))
    go true h = record { fit = h; on = λ es k. k }
    go false h = tt

fired_reads : (n : Net) (u v : State) (j : ℕ) (q : List Timer) (g : Generator) → v.counts ≡ u.counts → EventReads n u (event n v (fired j) q g)
fired_reads n u v j q g same = go (counts_fit (move n v.counts (fired j))) refl
  where
    go : (c : Bool) → counts_fit (move n v.counts (fired j)) ≡ c
        → EventReads n u (pick c (given (record { what = fired j ∷ []; leaves = state v.clock (move n v.counts (fired j)) q g })) (refused 14))
    go true h = record { fit = h; on = λ es k. subst (λ (m : Marking). ReadFit n (move n m (fired j)) es) same k }
    go false h = tt

fire_reads : (n : Net) (u v : State) (o : Option ℕ) → v.counts ≡ u.counts → counts_fit v.counts ≡ true → EventReads n u (fire n v o)
fire_reads n u v none same h = record { fit = h; on = λ es k. subst (λ (m : Marking). ReadFit n m es) same k }
fire_reads n u v (some j) same h = fired_reads n u v j v.timers v.generator same

module _ (n : Net) (s : State) (b : Bool) (js : List ℕ) (v : State) (a0 : Float) (xs : List Float) (to : after n s.counts (map started js) ≡ v.counts) (h : counts_fit v.counts ≡ true) where
  go_on_reads : (x : Next) → StepReads n s (given (go_on n b js v a0 xs x))
  go_on_reads nothing_left = tt
  go_on_reads (race dt) =
      let u : State = set_clock (add binary64 v.clock dt) v in
      let o : Option ℕ = chosen (mul binary64 (uniform u.generator) a0) xs in
      record { to = to; fit = h; event = fire_reads n u (state u.clock u.counts u.timers (drawn u.generator)) o refl h }
  go_on_reads (completion at) =
      let u : State = set_clock at v in
      record { to = to; fit = h; event = completed_reads n u (first u.timers).who (others u.timers) u.generator }

step_reads : (room : ℕ) (n : Net) (s : State) → counts_fit s.counts ≡ true → StepReads n s (step room n s)
step_reads room n s h = go (starts room n s) (λ b p. starts_fit room n s b p h) (λ b p. leads_counts (starts_lead room n s.clock s.counts s.timers b p))
  where
    go : (r : Answer Starts) → ((b : Starts) → r ≡ given b → counts_fit b.counts ≡ true)
        → ((b : Starts) → r ≡ given b → after n s.counts (map started b.who) ≡ b.counts) → StepReads n s (after_starts n s r)
    go (refused c) k l = tt
    go (given b) k l =
        let a0 : Float = total (propensities n b.counts) in
        let v : State = state s.clock b.counts b.timers (drawn_for a0 s.generator) in
        go_on_reads n s (adds_rounded n b.counts) b.who v a0 (propensities n b.counts) (l b refl) (k b refl) (next a0 s.clock (waiting a0 s.generator) b.timers)

-- ---- a run

run_reads : (out : End) (room : ℕ) (n : Net) (last : Float) (k : ℕ) (s : State) → counts_fit s.counts ≡ true
    → ReadFit n s.counts (entries (run_within out room n last k s))
run_reads out room n last zero s h = h
run_reads out room n last (suc k) s h = below (lt s.clock last) (one (step room n s) (step_reads room n s h) (λ u f. run_reads out room n last k u f))
  where
    one : (r : Answer Step) → StepReads n s r → ((u : State) → counts_fit u.counts ≡ true → ReadFit n u.counts (entries (run_within out room n last k u)))
        → ReadFit n s.counts (entries (stepped last s r (run_within out room n last k)))
    one (refused c) w ih = h
    one (given (still b)) w ih = h
    one (given (sets b js u e)) w ih = past (lt last u.clock) e w.event
      where
        es : List Entry
        es = map started js ++ reading u.clock ∷ []

        -- what follows the reading
        up_to_lem : (fs : List Entry) → ReadFit n u.counts fs → ReadFit n s.counts (es ++ fs)
        up_to_lem fs k =
            rw (append_assoc (map started js) (reading u.clock ∷ []) fs)
            (started_on n js (reading u.clock ∷ fs) s.counts (subst (λ (m : Marking). ReadFit n m (reading u.clock ∷ fs)) (sym w.to) (w.fit, k)))

        past : (c : Bool) (e : Answer Event) → EventReads n u e
            → ReadFit n s.counts (entries (pick c (steps b es (ends reached u)) (concluded b es e (run_within out room n last k))))
        past true e v = up_to_lem [] w.fit
        past false (refused c) v = up_to_lem [] w.fit
        past false (given ev) v =
            rw (append_assoc es ev.what (entries (run_within out room n last k ev.leaves)))
            (up_to_lem (ev.what ++ entries (run_within out room n last k ev.leaves)) (v.on _ (ih ev.leaves v.fit)))

    below : (c : Bool) → ReadFit n s.counts (entries (stepped last s (step room n s) (run_within out room n last k)))
        → ReadFit n s.counts (entries (pick c (stepped last s (step room n s) (run_within out room n last k)) (ends reached s)))
    below true k = k
    below false k = h

-- the counts that a run shows at any instant, from counts that fit on
pub run_shows : (out : End) (room : ℕ) (n : Net) (last : Float) (k : ℕ) (s : State) → counts_fit s.counts ≡ true → (x : Float)
    → counts_fit (shown_from n s.counts (entries (run_within out room n last k s)) x) ≡ true
run_shows out room n last k s h x = fit_before n x (entries (run_within out room n last k s)) s.counts (run_reads out room n last k s h)

-- ---- what is shown

pub each_fits : (f : Float → Marking) → ((x : Float) → counts_fit (f x) ≡ true) → (xs : List Float) (i : ℕ) → counts_fit (get_or (map f xs) i []) ≡ true
each_fits f h [] i = refl
each_fits f h (x ∷ xs) zero = h x
each_fits f h (x ∷ xs) (suc i) = each_fits f h xs i

pub shown_fits : (n : NetRecord) → fault n ≡ none → (g : Generator) (xs : List Float) (k : ℕ) (a : Path) → accepted_path (readable n) g xs k ≡ given a
    → (i p : ℕ) → count a i p ≤ 2 ^ 53
shown_fits n e g xs k a q i p =
    fit_held (get_or a.shown i [])
    (rw (answered (readable n) g xs k a q).shows (each_fits (shown_at (readable n) (trace (run_of (readable n) g xs k))) at xs i)) p
  where
    first_fit : counts_fit (initial_counts (readable n)) ≡ true
    first_fit = (accepted n e).initial

    at : (x : Float) → counts_fit (shown_at (readable n) (trace (run_of (readable n) g xs k)) x) ≡ true
    at x =
        fit_before (readable n) x (trace (run_of (readable n) g xs k)) (initial_counts (readable n))
        (first_fit, run_reads spent 256 (readable n) (last_of xs) k (beginning (readable n) g) first_fit)
