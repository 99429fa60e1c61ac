-- A path played in a loop. `SoFar` is what holds between two steps: the whole run is what has been shown and the run that follows from here; a step carries
-- it on or ends it (rules, proofs/PlayLaws).
use Prim.Native.Nat.{ℕ, suc, ◌+◌, ◌-◌, ◌≤◌, ◌<◌, max}
use mathlib.Core.Path.{◌≡◌, refl, sym, ap, subst, ◌∙◌}
use mathlib.Core.Bool.{Bool, true, false}
use mathlib.Core.List.{List, [], ◌∷◌, ◌++◌, append-nil}
use mathlib.Core.Logic.{inl, inr}
use native.Mathlib.Omega.{arith}
use native.Mathlib.Numerals.{add-one, one-add}
use lib.ListN.{length, drop, get_or, length-append, length-drop, drop_of_length-le}
use lib.Seq.{drop-cons}
use lib.Ieee.{Float, nan, lt, le}
use Rattle.refusals.specs.Number.{number_of}
use Rattle.refusals.specs.declared.Refusal.{Refusal}
use Rattle.net.specs.Net.{Net, Marking, pick}
use Rattle.net.specs.Tests.{empty}
use Rattle.rules.specs.Step.{State, Answer, given, nobody, Event, sets, step}
use Rattle.rules.specs.Run.{End, quiet, reached}
use Rattle.rules.specs.Demand3.{takes_once}
use Rattle.rules.proofs.Counts.{once_each}
use Rattle.rules.proofs.Play.{Played, up_to, beyond, alike, over, higher, play_within}
use Rattle.rules.proofs.PlayLaws as Rule
use Rattle.rules.proofs.PlayLaws.{add_done}
use Rattle.playing.specs.declared.PathEnd.{PathEnd}
use Rattle.playing.specs.declared.PathEnd.TheVariants.{Quiet, Reached, Refused}
use Rattle.playing.specs.declared.run.Walked.{Walked}
use Rattle.playing.specs.Cells.{reached_by, ShownBy, NotShown}
use Rattle.playing.specs.Ends.{end_of}
use Rattle.playing.specs.declared.step.Ending.TheVariants as Ending
use Rattle.playing.specs.declared.step.Now.{Now}
use Rattle.playing.specs.Stepping.{tokens_of, Topped, StepBy, goes_further, quiet as no_more, reached as passed, starting, putting}
use Rattle.playing.specs.Playing.{Listed, WalkBy, refuses, ends}
use Rattle.playing.proofs.Cells.{filled_none}
use Rattle.playing.proofs.Columns.{listed_none, listed_join, listed_alike}

-- ---- the instants reached

same_reached : (t : Float) (xs : List Float) → reached_by t xs ≡ Rule.reached_by t xs
same_reached t [] = refl
same_reached t (x ∷ xs) = ap (λ (k : ℕ). pick (le x t) (suc k) 0) (same_reached t xs)

pub reached_few : (t : Float) (xs : List Float) (i : ℕ) → i ≤ length xs → i + reached_by t (drop i xs) ≤ length xs
reached_few t xs i h = omega (arith, same_reached t (drop i xs), Rule.reached_by_few t (drop i xs), length-drop i xs)

-- one instant, and those that follow it
pub reached_turn : (t : Float) (xs : List Float) (i : ℕ) → i < length xs → reached_by t (drop i xs) ≡ pick (le (get_or xs i nan) t) (1 + reached_by t (drop (i + 1) xs)) 0
reached_turn t xs i h = ap (reached_by t) (drop-cons xs i nan h) ∙ simp (add-one, one-add)

-- no instant is left
pub reached_none : (t : Float) (xs : List Float) (i : ℕ) → length xs ≤ i → reached_by t (drop i xs) ≡ 0
reached_none t xs i h = ap (reached_by t) (drop_of_length-le xs h)

-- ---- as a run shows its counts

-- where no further instant is reached, nothing is shown
pub shows_none : (places : ℕ) (xs : List Float) (clock : Float) (m : Marking) (next : ℕ) (t : List Float) → reached_by clock (drop next xs) ≡ 0
    → ShownBy places xs clock m next next t t
shows_none places xs clock m next t e =
    record { up_to = omega (arith, e); cells = filled_none places (length xs) next next m t (omega arith) }

module _ (places : ℕ) (xs : List Float) (clock : Float) (m : Marking) (next next' : ℕ) (t t' : List Float)
    (s : ShownBy places xs clock m next next' t t') where
  shown_next : next' ≡ next + Rule.reached_by clock (drop next xs)
  shown_next = s.up_to ∙ ap (λ (k : ℕ). next + k) (same_reached clock (drop next xs))

  pub shown_within : next ≤ length xs → next' ≤ length xs
  shown_within h = omega (arith, s.up_to, reached_few clock xs next h)

  pub shown_beyond : beyond clock (drop next xs) ≡ drop next' xs
  shown_beyond = Rule.beyond_from clock next xs ∙ ap (λ (i : ℕ). drop i xs) (sym shown_next)

  pub listed_shown : next ≤ length xs → Listed places (length xs) next next' (alike m (up_to clock (drop next xs))) t t'
  listed_shown h =
      listed_alike places (length xs) next next' m (up_to clock (drop next xs)) t t' h
      (shown_next ∙ ap (λ (k : ℕ). next + k) (sym (Rule.up_to_length clock (drop next xs))))
      s.cells

-- ---- between two steps

-- a step counts once
pub one_at_most : (b : Bool) → pick b 1 0 ≤ 1
one_at_most true = omega arith
one_at_most false = omega arith

-- These counts have been shown, `most` is the peak so far, so many of the steps done add a rounded propensity, and the whole is this and the run from here,
-- with so many steps left. The tokens of now are in the peak, or no start will bring them in: the program keeps their number.
pub record SoFar (out : End) (room : ℕ) (n : Net) (last : Float) (xs : List Float) (places : ℕ) (whole : Answer Played) (from : ℕ) (t₀ : List Float)
    (left done rounds next many most : ℕ) (s : State) (t : List Float) : Type 0 where
  pub shown : List Marking
  pub listed : Listed places (length xs) from next shown t₀ t
  pub within : next ≤ length xs
  pub now : many ≡ tokens_of s
  pub high : Topped room n last left s most
  pub rest : whole ≡ add_done shown (length shown) most rounds done (play_within out room n last left (drop next xs) s)

higher_none : (v : ℕ) (r : Answer Played) → higher v r ≡ add_done [] 0 v 0 0 r
higher_none v r =
    let e : max 0 v ≡ v = omega arith in
    sym (Rule.add_done_none (higher v r)) ∙ Rule.add_done_higher [] 0 0 0 0 v r ∙ ap (λ (k : ℕ). add_done [] 0 k 0 0 r) e

pub so_far_none : (out : End) (room : ℕ) (n : Net) (last : Float) (xs : List Float) (places left next many most : ℕ) (s : State) (t : List Float)
    → next ≤ length xs → many ≡ tokens_of s → Topped room n last left s most
    → SoFar out room n last xs places (higher most (play_within out room n last left (drop next xs) s)) next t (left - 0) 0 0 next many most s t
so_far_none out room n last xs places left next many most s t h now high =
    let e : left ≡ left - 0 = omega arith in
    record {
      shown = [];
      listed = listed_none places (length xs) next t;
      within = h;
      now = now;
      high = subst (λ (l : ℕ). Topped room n last l s most) e high;
      rest = higher_none most (play_within out room n last left (drop next xs) s)
          ∙ ap (λ (l : ℕ). add_done [] 0 most 0 0 (play_within out room n last l (drop next xs) s)) e;
    }

-- the answer where the loop stops at `at`
abbrev pub walked_at : PathEnd → ℕ → ℕ → Now → Walked
walked_at end steps rounded at =
    record { end = end; steps = steps; rounded = rounded; next = at.next; peak = at.peak; clock = at.clock; timers = at.timers; rng = at.rng }

-- the loop ends with this
abbrev pub WalkedTo : List Float → ℕ → Answer Played → ℕ → List Float → State → List Float → Walked → PathEnd → Type 0
WalkedTo xs places whole from t₀ s t w end = WalkBy whole xs s (λ (sh : List Marking). Listed places (length xs) from w.next sh t₀ t) w end

-- … and so with an answer that is the same
pub walked_same : {whole : Answer Played} {xs : List Float} {places from : ℕ} {t₀ t : List Float} (state : Walked → State) {v w : Walked} → v ≡ w
    → WalkedTo xs places whole from t₀ (state v) t v v.end → WalkedTo xs places whole from t₀ (state w) t w w.end
walked_same {whole} {xs} {places} {from} {t₀} {t} state e h = subst (λ (x : Walked). WalkedTo xs places whole from t₀ (state x) t x x.end) e h

module _ {out : End} {room : ℕ} {n : Net} {last : Float} {xs : List Float} {places : ℕ} {whole : Answer Played} {from : ℕ} {t₀ : List Float} where
  -- no step more: the clock has reached the last instant, or the steps are done
  module _ (w : Walked) {left many : ℕ} {s : State} {t : List Float}
      (f : SoFar out room n last xs places whole from t₀ left w.steps w.rounded w.next many w.peak s t) where
    abbrev done_so_far : Answer Played → Answer Played
    done_so_far r = add_done f.shown (length f.shown) w.peak w.rounded w.steps r

    pub at_last : lt s.clock last ≡ false → WalkedTo xs places whole from t₀ s t w Reached
    at_last h =
        ends Reached reached f.shown refl f.within f.listed
        (f.rest ∙ ap done_so_far (Rule.play_over out room n last (drop w.next xs) s left h))

    pub at_limit : (end : PathEnd) → end_of end ≡ given out → left ≡ 0 → lt s.clock last ≡ true → WalkedTo xs places whole from t₀ s t w end
    at_limit end e z h =
        ends end out f.shown e f.within f.listed
        (f.rest ∙ ap (λ (l : ℕ). done_so_far (play_within out room n last l (drop w.next xs) s)) z
        ∙ ap done_so_far (Rule.play_out out room n last (drop w.next xs) s h))

  -- a step
  module _ (once : takes_once n.transitions ≡ true) {left done rounds next many most : ℕ} {s : State} {t : List Float}
      (f : SoFar out room n last xs places whole from t₀ left done rounds next many most s t) (k : ℕ) (one : left ≡ suc k) (below : lt s.clock last ≡ true) where
    abbrev sh : List Marking
    sh = f.shown

    -- the whole, one step before its end
    carried : whole ≡ add_done sh (length sh) most rounds done (play_within out room n last (suc k) (drop next xs) s)
    carried = f.rest ∙ ap (λ (l : ℕ). add_done sh (length sh) most rounds done (play_within out room n last l (drop next xs) s)) one

    -- the clock reading of a step, at which the state is u
    module _ (u : State) {next' : ℕ} {t' : List Float} (v : ShownBy places xs u.clock u.counts next next' t t') where
      abbrev seen : List Float
      seen = up_to u.clock (drop next xs)

      abbrev now_shown : List Marking
      now_shown = sh ++ alike u.counts seen

      now_listed : Listed places (length xs) from next' now_shown t₀ t'
      now_listed =
          listed_join places (length xs) from next next' sh (alike u.counts seen) t₀ t t' f.listed
          (listed_shown places xs u.clock u.counts next next' t t' v f.within)

      now_within : next' ≤ length xs
      now_within = shown_within places xs u.clock u.counts next next' t t' v f.within

      now_many : length sh + length seen ≡ length now_shown
      now_many = sym (length-append sh (alike u.counts seen) ∙ ap (λ (i : ℕ). length sh + i) (Rule.alike_length u.counts seen))

      now_left : beyond u.clock (drop next xs) ≡ drop next' xs
      now_left = shown_beyond places xs u.clock u.counts next next' t t' v

    -- what is done once the clock reading is set, with the peak pk
    abbrev done_then : (u : State) → Bool → ℕ → Answer Played → Answer Played
    done_then u b pk r =
        add_done (sh ++ alike u.counts (up_to u.clock (drop next xs))) (length sh + length (up_to u.clock (drop next xs))) pk (rounds + pick b 1 0) (done + 1) r

    -- starts bring nothing into the peak
    past : (b : Bool) (js : List ℕ) (u : State) (e : Answer Event) → step room n s ≡ given (sets b js u e) → lt last u.clock ≡ true
        → add_done sh (length sh) most rounds done (play_within out room n last (suc k) (drop next xs) s)
        ≡ done_then u b most (given (over reached u (beyond u.clock (drop next xs))))
    past b js u e p q = go f.high
      where
        go : Topped room n last left s most
            → add_done sh (length sh) most rounds done (play_within out room n last (suc k) (drop next xs) s)
            ≡ done_then u b most (given (over reached u (beyond u.clock (drop next xs))))
        go (inl h) = Rule.done_past out room n (once_each n once) last (drop next xs) s k below b js u sh (length sh) most rounds done h e p q
        go (inr h) =
            let none : js ≡ [] = (h (omega (arith, one)) below b js u e p).0 in
            Rule.done_past_any out room n (once_each n once) last (drop next xs) s k below b js u sh (length sh) most rounds done e p q
            ∙ ap (λ (is : List ℕ). done_then u b (pick (nobody is) most (max most (tokens_of s))) (given (over reached u (beyond u.clock (drop next xs))))) none

    -- and an event the tokens that it leaves
    happens : (b : Bool) (js : List ℕ) (u : State) (ev : Event) → step room n s ≡ given (sets b js u (given ev)) → lt last u.clock ≡ false
        → add_done sh (length sh) most rounds done (play_within out room n last (suc k) (drop next xs) s)
        ≡ done_then u b (max most (tokens_of ev.leaves)) (play_within out room n last k (beyond u.clock (drop next xs)) ev.leaves)
    happens b js u ev p q = go f.high
      where
        go : Topped room n last left s most
            → add_done sh (length sh) most rounds done (play_within out room n last (suc k) (drop next xs) s)
            ≡ done_then u b (max most (tokens_of ev.leaves)) (play_within out room n last k (beyond u.clock (drop next xs)) ev.leaves)
        go (inl h) = Rule.done_event out room n (once_each n once) last (drop next xs) s k below b js u sh (length sh) most rounds done h ev p q
        go (inr h) =
            let both : (js ≡ []) × ((ev' : Event) → given ev ≡ given ev' → empty ev'.what ≡ false) = h (omega (arith, one)) below b js u (given ev) p in
            Rule.done_event_any out room n (once_each n once) last (drop next xs) s k below b js u sh (length sh) most rounds done ev p q
            ∙ (λ i. done_then u b
            (pick (both.1 ev refl i) (pick (nobody (both.0 i)) most (max most (tokens_of s))) (max (pick (nobody (both.0 i)) most (max most (tokens_of s))) (tokens_of ev.leaves)))
            (play_within out room n last k (beyond u.clock (drop next xs)) ev.leaves))

    pub goes_on : {same : Type 0} {next' many' most' : ℕ} {s' : State} {t' : List Float} {b : Bool} (rounds' : ℕ) → rounds' ≡ rounds + pick b 1 0
        → StepBy (step room n s) s last (λ (u : State). ShownBy places xs u.clock u.counts next next' t t') same most most' many' s' b Ending.GoesOn
        → SoFar out room n last xs places whole from t₀ k (done + 1) rounds' next' many' most' s' t'
    goes_on {same} {next'} {many'} {most'} {s'} {t'} {b} rounds' ro (goes_further js u ev p q v z now' most'') =
        record {
          shown = now_shown u v;
          listed = now_listed u v;
          within = now_within u v;
          now = now';
          high = inl (omega (arith, most'', now'));
          rest = carried
              ∙ happens b js u ev p q
              ∙ (λ i. add_done (now_shown u v) (now_many u v i) (peak i) (sym ro i) (done + 1) (play_within out room n last k (now_left u v i) (z i)));
        }
      where
        peak : max most (tokens_of ev.leaves) ≡ most'
        peak = ap (λ (x : State). max most (tokens_of x)) z ∙ ap (max most) (sym now') ∙ sym most''

    module _ (w : Walked) {s' : State} {t' : List Float} {many' : ℕ} {b : Bool} (st : w.steps ≡ done + 1) (ro : w.rounded ≡ rounds + pick b 1 0) where
      pub past_last : {same : Type 0}
          → StepBy (step room n s) s last (λ (u : State). ShownBy places xs u.clock u.counts next w.next t t') same most w.peak many' s' b Ending.Reached
          → WalkedTo xs places whole from t₀ s' t' w Reached
      past_last (passed js ev p q v most'') =
          ends Reached reached (now_shown s' v) refl (now_within s' v) (now_listed s' v)
          (carried
          ∙ past b js s' ev p q
          ∙ (λ i. add_done (now_shown s' v) (now_many s' v i) (sym most'' i) (sym ro i) (sym st i) (given (over reached s' (now_left s' v i)))))

      pub nothing_left : {shows : State → Type 0} → StepBy (step room n s) s last shows (NotShown next w.next t t') most w.peak many' s' b Ending.Quiet
          → WalkedTo xs places whole from t₀ s' t' w Quiet
      nothing_left (no_more p same v most'') =
          let a : length sh + 0 ≡ length sh = omega arith in
          ends Quiet quiet sh refl
          (rw v.next f.within)
          (rw (v.next, v.table) f.listed)
          (carried
          ∙ ap (add_done sh (length sh) most rounds done) (Rule.play_still out room n last (drop next xs) s k below b p)
          ∙ Rule.add_done_step sh (length sh) most rounds done b s.counts [] (given (over quiet s (drop next xs)))
          ∙ (λ i. add_done (append-nil sh i) (a i) (sym most'' i) (sym ro i) (sym st i) (given (over quiet (sym same i) (drop (sym v.next i) xs)))))

    pub turned_down : (w : Walked) {shows : State → Type 0} {same : Type 0} {most' many' : ℕ} {s' s'' : State} {t' : List Float} {b : Bool} (c : Refusal)
        → StepBy (step room n s) s last shows same most most' many' s' b (Ending.Refused c) → WalkedTo xs places whole from t₀ s'' t' w (Refused c)
    turned_down w c (starting p) = refuses c (carried ∙ ap (add_done sh (length sh) most rounds done) (Rule.play_refused out room n last (drop next xs) s k below (number_of c) p))
    turned_down w {b = b} c (putting js u p q) =
        refuses c (carried ∙ Rule.done_refused out room n (once_each n once) last (drop next xs) s k below b js u sh (length sh) most rounds done (number_of c) p q)
