-- The run of a carried path: what it leaves is what the rules leave of the renamed path (Resumed), and no more steps are done than were left. And the call
-- that carries a path: its answer is the definition's by the tests that led to it.
use Prim.Native.Nat.{ℕ, ◌-◌, ◌≤◌}
use Prim.{tt}
use mathlib.Core.Path.{◌≡◌, refl, sym, ap, subst, ◌∙◌}
use mathlib.Core.Bool.{Bool, not}
use mathlib.Core.List.{List}
use mathlib.Core.Option.{Option, none, some}
use native.Mathlib.Omega.{arith}
use lib.Dec.{ltb}
use lib.ListN.{length, drop}
use lib.Ieee.{Float}
use borrow.Author.Tests.{eqb-true, not-false}
use Rattle.refusals.specs.Number.{number_of}
use Rattle.refusals.specs.declared.Refusal.{Refusal}
use Rattle.net.specs.declared.Net.{Net as NetRecord}
use Rattle.net.specs.Net.{Net}
use Rattle.net.specs.Readable.{readable, fault}
use Rattle.net.specs.Tests.{first_of, or_else}
use Rattle.net.proofs.Lengths.{places_length}
use Rattle.rules.specs.Moments.{Moment, moment}
use Rattle.rules.specs.Step.{State, Answer, refused, given}
use Rattle.rules.specs.Run.{End, Run, Outcome, outcome, run_within, entries, steps_of, rounded_of}
use Rattle.rules.specs.Shown.{last_of}
use Rattle.rules.specs.Carried.{Carried, play_on}
use Rattle.rules.specs.Change.{Pair, carried_tests, renaming_tests, renamed}
use Rattle.rules.proofs.TakesOnce.{none_applies, neither_fault}
use Rattle.rules.proofs.Runs.{steps_most, rounded_most}
use Rattle.rules.proofs.Play.{Played, told, told_run, higher, play_within, as_played, Rises}
use Rattle.rules.proofs.PlayedOn.{steps_for}
use Rattle.carried.specs.Records.{record_strange}
use Rattle.carried.proofs.Recorded.{recorded_long}
use Rattle.ssa.specs.declared.Halted.{Halted}
use Rattle.ssa.specs.declared.Onward.{Onward as OnwardAnswer}
use Rattle.playing.specs.declared.PathEnd.{PathEnd}
use Rattle.playing.specs.declared.PathEnd.TheVariants.{Refused}
use Rattle.playing.specs.declared.run.Walked.{Walked}
use Rattle.ssa.specs.Path.{end_of, table_fits}
use Rattle.playing.specs.Playing.{out_of, PlayedBy, refuses, ends}
use Rattle.ssa.specs.Told.{settled_at}
use Rattle.ssa.specs.Halted.{Standing, Call, standing_of, carried_from, turned_down, played, unless_fault, carrying_fault, carrying, call_of}
use Rattle.ssa.proofs.Answered.{NotRefused}
use Rattle.ssa.proofs.Called.{carrying_is}
use Rattle.ssa.proofs.Resumed.{told_on, refused_on, played_to}

-- ---- no more steps than were left, and of these no more are rounded

abbrev Within : ℕ → Answer Played → Type 0
Within k (refused c) = Unit
Within k (given r) = (r.rounded ≤ r.steps) × (r.steps ≤ k)

within_told : (n : Net) (x : Moment) (xs : List Float) (r : Run) (k : ℕ) → steps_of r ≤ k → Within k (told_run n x xs r)
unfolding told
within_told n x xs r k h = go (outcome r)
  where
    go : (o : Answer Outcome) → Within k (told n x xs (entries r) (steps_of r) (rounded_of r) o)
    go (refused c) = tt
    go (given o) = (rounded_most r, h)

within_higher : (v k : ℕ) (r : Answer Played) → Within k r → Within k (higher v r)
within_higher v k (refused c) h = h
within_higher v k (given r) h = h

within_run : (v : ℕ) (out : End) (n : Net) (last : Float) (k : ℕ) (xs : List Float) (s : State) → Rises xs
    → Within k (higher v (play_within out 256 n last k xs s))
within_run v out n last k xs s rise =
    within_higher v k (play_within out 256 n last k xs s)
    (subst (Within k) (as_played out 256 n last k s xs rise)
    (within_told n (moment s) xs (run_within out 256 n last k s) k (steps_most out 256 n last k s)))

-- ---- the run of a carried path

module _ (n : Net) (places : ℕ) (ps : List Pair) (h : Halted) (xs t : List Float) (named : ℕ) (rise : Rises (drop h.recorded xs)) where
  abbrev moved : Carried
  moved = renamed ps (carried_from places (standing_of places h) xs t)

  abbrev playing : Bool → ℕ → State → Answer Played
  playing halts steps from = higher h.peak (play_within (out_of halts) 256 n (last_of xs) steps (drop h.recorded xs) from)

  abbrev answer : Call
  answer = played places (length xs) h.recorded (standing_of places h) t (play_on 256 n moved named)

  long : length moved.recorded ≡ h.recorded
  long = recorded_long places (length xs) t h.recorded

  module _ {from : State} (same : from ≡ moved.now) {halts : Bool} {steps : ℕ} (b : halts ≡ ltb named (h.limit - h.steps))
      (m : steps ≡ steps_for moved named) {t' : List Float} {left : State} {w : Walked} {end : PathEnd}
      (run : PlayedBy (playing halts steps from) places xs h.recorded t t' left w end) where
    rise' : Rises (drop (length moved.recorded) xs)
    rise' = subst (λ (k : ℕ). Rises (drop k xs)) (sym long) rise

    pub continued_refused : {k : Refusal} → end ≡ Refused k → turned_down (number_of k) (standing_of places h) t' ≡ answer
    continued_refused e = sym (refused_on n moved named rise' b m (sym long) refl same (standing_of places h) e run)

    pub continued_to : NotRefused end → (r : OnwardAnswer) → r.end ≡ end → r.settled ≡ settled_at end w.next (length xs)
        → standing_of places r.state ≡ (told_on moved left w t' end).state → call_of places r t' ≡ answer
    continued_to e r a d f =
        (λ i. record { end = end_of (a i); settled = d i; state = f i; table = t' })
        ∙ sym (played_to n moved named rise' b m (sym long) refl same (standing_of places h) e run)

    pub few_steps : NotRefused end → (w.rounded ≤ w.steps) × (w.steps ≤ steps)
    few_steps e = go run e
      where
        go : {end' : PathEnd} → PlayedBy (playing halts steps from) places xs h.recorded t t' left w end'
            → NotRefused end' → (w.rounded ≤ w.steps) × (w.steps ≤ steps)
        go (refuses k p q) e = absurd e
        go (ends end e' sh a b i x q) e =
            let r = subst (Within steps) q (within_run h.peak (out_of halts) n (last_of xs) steps (drop h.recorded xs) from rise) in
            (omega (arith, r.0), omega (arith, r.1))

-- ---- the call

-- Its answer by the first test that it meets.
module _ (old new : NetRecord) (ps : List Pair) (s : Standing) (xs : List Float) (named : ℕ) (table : List Float) where
  abbrev run : Call
  run = played old.places (length xs) s.recorded s table (play_on 256 (readable new) (renamed ps (carried_from old.places s xs table)) named)

  pub carrying_by : {o : Option ℕ} → o ≡ carrying_fault old.places old new ps s xs table → unless_fault o s table run ≡ carrying old new ps s xs named table
  carrying_by e =
      ap (λ (o : Option ℕ). unless_fault o s table run) e
      ∙ go (fault old) (fault new) _
      ∙ sym (carrying_is old new ps s xs table named)
    where
      go : (a b f : Option ℕ) → unless_fault (or_else a (or_else b f)) s table run ≡ unless_fault a s table (unless_fault b s table (unless_fault f s table run))
      go none none f = refl
      go none (some k) f = refl
      go (some k) b f = refl

-- What is known of a call that meets none of its tests.
pub record Passing (places : ℕ) (old new : NetRecord) (ps : List Pair) (s : Standing) (xs table : List Float) : Type 0 where
  pub old_sound : fault old ≡ none
  pub new_sound : fault new ≡ none
  pub state : first_of (carried_tests 256 (not (table_fits places (length xs) table)) (record_strange places (length xs) s.recorded table) (carried_from places s xs table)) ≡ none
  pub list : first_of (renaming_tests (readable old) (readable new) (carried_from places s xs table) ps) ≡ none

pub passing_all : (places : ℕ) (old new : NetRecord) (ps : List Pair) (s : Standing) (xs table : List Float) → none ≡ carrying_fault places old new ps s xs table
    → Passing places old new ps s xs table
passing_all places old new ps s xs table e =
    let outer = neither_fault (fault old) _ (sym e) in
    let inner = neither_fault (fault new) _ outer.1 in
    let last = neither_fault _ _ inner.1 in
    record { old_sound = outer.0; new_sound = inner.0; state = last.0; list = last.1 }

-- nets of as many places
pub same_places : (old new : NetRecord) (c : Carried) (ps : List Pair) → first_of (renaming_tests (readable old) (readable new) c ps) ≡ none
    → old.places ≡ new.places
same_places old new c ps e =
    sym (places_length old)
    ∙ eqb-true _ _ (not-false _ (none_applies (renaming_tests (readable old) (readable new) c ps) e 0))
    ∙ places_length new

-- the answer of a carried path, over so many places
abbrev Answers : Net → List Pair → Halted → List Float → List Float → ℕ → OnwardAnswer → List Float → ℕ → Type 0
Answers new ps h xs t named r t' p =
    call_of p r t' ≡ played p (length xs) h.recorded (standing_of p h) t (play_on 256 new (renamed ps (carried_from p (standing_of p h) xs t)) named)

pub answers_same : (new : Net) (ps : List Pair) (h : Halted) (xs t : List Float) (named : ℕ) (r : OnwardAnswer) {t' : List Float} {p q : ℕ} → p ≡ q
    → Answers new ps h xs t named r t' q → Answers new ps h xs t named r t' p
answers_same new ps h xs t named r {t'} e a = subst (Answers new ps h xs t named r t') (sym e) a
