-- Starts from left to right: those so far stand in front of what is still to come. A turn adds the starts of one transition, or of one pass, and
-- in the end nothing is to come.
use Prim.Native.Nat.{ℕ, zero, suc, ◌+◌, ◌-◌, ◌≤◌, ◌<◌}
use mathlib.Core.Path.{◌≡◌, refl, sym, ap, ◌∙◌}
use mathlib.Core.Bool.{Bool, true, false, not, ◌&&◌, ◌||◌, true≢false}
use mathlib.Core.List.{List, [], ◌∷◌, ◌++◌, append_assoc}
use native.Mathlib.Omega.{arith}
use native.Mathlib.Decide.{dec_le}
use native.Mathlib.Numerals.{add-one}
use lib.Dec.{ltb}
use lib.ListN.{length}
use lib.Ieee.{Float}
use Rattle.refusals.specs as Refusal
use Rattle.net.specs.declared.Net.{Net as NetRecord}
use Rattle.net.specs.Net.{Transition, Net, Marking, pick, timed}
use Rattle.net.specs.Readable.{readable, transition, transitions_from}
use Rattle.rules.specs.Enabled.{enabled}
use Rattle.rules.specs.Timers.{Timer, timer_of, insert}
use Rattle.rules.specs.Moves.{taking}
use Rattle.rules.specs.Step.{Answer, refused, given, Starts, preceded, pass, nobody, unless_none, passes}
use Rattle.playing.specs.Starts.{Begun, Full}

-- these starts, and the counts and timers that they leave
abbrev pub left : List ℕ → Marking → List Timer → Answer Starts
left who m q = given (record { who = who; counts = m; timers = q })

-- ---- starts in front of others

preceded_none : (r : Answer Starts) → preceded [] r ≡ r
preceded_none (refused c) = refl
preceded_none (given s) = refl

preceded_append : (a b : List ℕ) (r : Answer Starts) → preceded (a ++ b) r ≡ preceded a (preceded b r)
preceded_append a b (refused c) = refl
preceded_append a b (given s) = ap (λ (w : List ℕ). left w s.counts s.timers) (append_assoc a b s.who)

nobody_append : (a b : List ℕ) → nobody (a ++ b) ≡ (nobody a && nobody b)
nobody_append [] b = refl
nobody_append (j ∷ a) b = refl

neither : (a b x y : Bool) → a ≡ not x → b ≡ not y → (a && b) ≡ not (x || y)
neither a b true y e f = rw e
neither a b false y e f = rw (e, f)

and_off : (a b : Bool) → b ≡ false → (a && b) ≡ false
and_off true b e = e
and_off false b e = refl

or_false : (x : Bool) → (x || false) ≡ x
or_false true = refl
or_false false = refl

or_true : (x : Bool) → (x || true) ≡ true
or_true true = refl
or_true false = refl

-- the same from where these starts leave off
abbrev pub onward : (Marking → List Timer → Answer Starts) → Answer Starts → Answer Starts
onward further (refused c) = refused c
onward further (given s) = preceded s.who (further s.counts s.timers)

-- ---- so far

-- the whole is what has started so far in front of the rest, and any says whether one has
pub record SoFar (whole rest : Answer Starts) (any : Bool) : Type 0 where
  pub who : List ℕ
  pub so : whole ≡ preceded who rest
  pub none : nobody who ≡ not any

pub so_none : (whole rest : Answer Starts) → rest ≡ whole → SoFar whole rest false
so_none whole rest e = record { who = []; so = sym (preceded_none rest ∙ e); none = refl }

module _ {whole rest : Answer Starts} {any : Bool} (s : SoFar whole rest any) where
  -- nobody else starts
  pub so_ended : (who : List ℕ) (m : Marking) (q : List Timer) → rest ≡ left who m q → nobody who ≡ true → Begun whole m q any
  so_ended who m q e quiet =
      record {
        who = s.who ++ who;
        is = s.so ∙ ap (preceded s.who) e;
        none = nobody_append s.who who ∙ neither (nobody s.who) (nobody who) any false s.none quiet ∙ ap not (or_false any);
      }

  -- there is no room for another timer
  module _ {one : Answer Starts} (full : Full one) (further : Marking → List Timer → Answer Starts) where
    pub turn_full : rest ≡ onward further one → Full whole
    turn_full e = s.so ∙ ap (preceded s.who) (e ∙ ap (onward further) full)

    pub again_full : rest ≡ unless_none further one → Full whole
    again_full e = s.so ∙ ap (preceded s.who) (e ∙ ap (unless_none further) full)

  module _ {one : Answer Starts} {m : Marking} {q : List Timer} {more : Bool} (b : Begun one m q more) (further : Marking → List Timer → Answer Starts) where
    -- a transition more
    pub turned : rest ≡ onward further one → SoFar whole (further m q) (any || more)
    turned e =
        record {
          who = s.who ++ b.who;
          so = s.so ∙ ap (preceded s.who) (e ∙ ap (onward further) b.is) ∙ sym (preceded_append s.who b.who (further m q));
          none = nobody_append s.who b.who ∙ neither (nobody s.who) (nobody b.who) any more s.none b.none;
        }

    -- a pass in which one starts is followed by another
    pub again_turned : rest ≡ unless_none further one → more ≡ true → SoFar whole (further m q) true
    again_turned e y =
        let some : nobody b.who ≡ false = b.none ∙ ap not y in
        let next : rest ≡ preceded b.who (further m q) = e ∙ ap (unless_none further) b.is ∙ rw some in
        record {
          who = s.who ++ b.who;
          so = s.so ∙ ap (preceded s.who) next ∙ sym (preceded_append s.who b.who (further m q));
          none = nobody_append s.who b.who ∙ neither (nobody s.who) (nobody b.who) any true s.none some ∙ ap not (or_true any);
        }

    -- one in which none starts is the last
    pub again_ended : rest ≡ unless_none further one → more ≡ false → Begun whole m q any
    again_ended e y =
        let none : nobody b.who ≡ true = b.none ∙ ap not y in
        so_ended b.who m q (e ∙ ap (unless_none further) b.is ∙ rw none) none

-- ---- one transition

-- these timers with that of transition j, which starts at t
abbrev pub with_timer : Float → ℕ → Transition → List Timer → List Timer
with_timer t j x q = insert (timer_of t j x) q

module _ (room : ℕ) (n : Net) (t : Float) (j : ℕ) (x : Transition) (m : Marking) (q : List Timer) where
  -- what it does at its turn, by the tests that it is timed and enabled, and that there is room for a timer
  abbrev tried : Bool → Bool → Answer Starts
  tried on free = pick on (pick free (left (j ∷ []) (taking m x.takes) (with_timer t j x q)) (refused Refusal.too_many_timers)) (left [] m q)

  try_is : (on free : Bool) → (timed x && enabled n m x) ≡ on → ltb (length q) room ≡ free → pass room n t j (x ∷ []) m q ≡ tried on free
  try_is on free e f = rw (e, f)

  pub try_untimed : timed x ≡ false → pass room n t j (x ∷ []) m q ≡ left [] m q
  try_untimed d = try_is false (ltb (length q) room) (rw d) refl

  pub try_disabled : enabled n m x ≡ false → pass room n t j (x ∷ []) m q ≡ left [] m q
  try_disabled e = try_is false (ltb (length q) room) (and_off (timed x) (enabled n m x) e) refl

  -- whether there is room for its timer decides
  pub try_started : (m' : Marking) (q' : List Timer) → timed x ≡ true → enabled n m x ≡ true → ltb (length q) room ≡ true
      → m' ≡ taking m x.takes → q' ≡ with_timer t j x q → Begun (pass room n t j (x ∷ []) m q) m' q' true
  try_started m' q' d e h f g = record { who = j ∷ []; is = rw (f, g) (try_is true true (rw (d, e)) h); none = refl }

  pub try_full : timed x ≡ true → enabled n m x ≡ true → ltb (length q) room ≡ false → Full (pass room n t j (x ∷ []) m q)
  try_full d e h = try_is true false (rw (d, e)) h

  -- a pass that begins with it
  pass_next : (xs : List Transition) → pass room n t j (x ∷ xs) m q ≡ onward (pass room n t (suc j) xs) (pass room n t j (x ∷ []) m q)
  pass_next xs = go (timed x && enabled n m x) (ltb (length q) room)
    where
      go : (on free : Bool)
          → pick on (pick free (preceded (j ∷ []) (pass room n t (suc j) xs (taking m x.takes) (with_timer t j x q))) (refused Refusal.too_many_timers))
          (pass room n t (suc j) xs m q)
          ≡ onward (pass room n t (suc j) xs) (tried on free)
      go true true = refl
      go true false = refl
      go false free = sym (preceded_none (pass room n t (suc j) xs m q))

-- ---- a pass

-- the part of a pass from transition j on
pub pass_from : ℕ → NetRecord → Float → ℕ → Marking → List Timer → Answer Starts
pass_from room n t j m q = pass room (readable n) t j (transitions_from n j (n.transitions - j)) m q

module _ (room : ℕ) (n : NetRecord) (t : Float) (m : Marking) (q : List Timer) where
  pub from_first : pass_from room n t 0 m q ≡ pass room (readable n) t 0 (readable n).transitions m q
  unfolding pass_from
  from_first = let e : n.transitions - 0 ≡ n.transitions = omega arith in ap (λ (k : ℕ). pass room (readable n) t 0 (transitions_from n 0 k) m q) e

  pub from_next : (j : ℕ) → j < n.transitions
      → pass_from room n t j m q ≡ onward (pass_from room n t (j + 1)) (pass room (readable n) t j (transition n j ∷ []) m q)
  unfolding pass_from
  from_next j h =
      let e : n.transitions - j ≡ suc (n.transitions - (j + 1)) = omega arith in
      ap (λ (k : ℕ). pass room (readable n) t j (transitions_from n j k) m q) e
      ∙ pass_next room (readable n) t j (transition n j) m q (transitions_from n (suc j) (n.transitions - (j + 1)))
      ∙ ap (λ (i : ℕ). onward (λ m q. pass room (readable n) t i (transitions_from n i (n.transitions - (j + 1))) m q) (pass room (readable n) t j (transition n j ∷ []) m q))
      (sym (add-one j))

  pub from_end : (j : ℕ) → n.transitions ≤ j → pass_from room n t j m q ≡ left [] m q
  unfolding pass_from
  from_end j h = let e : n.transitions - j ≡ 0 = omega arith in ap (λ (k : ℕ). pass room (readable n) t j (transitions_from n j k) m q) e

-- ---- passes

pub passes_next : (room : ℕ) (n : Net) (t : Float) (m : Marking) (q : List Timer) (all i : ℕ) → i < all
    → passes (all - i) room n t m q ≡ unless_none (passes (all - (i + 1)) room n t) (pass room n t 0 n.transitions m q)
passes_next room n t m q all i h = let e : all - i ≡ suc (all - (i + 1)) = omega arith in ap (λ (k : ℕ). passes k room n t m q) e

pub passes_end : (room : ℕ) (n : Net) (t : Float) (m : Marking) (q : List Timer) (all i : ℕ) → all ≤ i → passes (all - i) room n t m q ≡ left [] m q
passes_end room n t m q all i h = let e : all - i ≡ 0 = omega arith in ap (λ (k : ℕ). passes k room n t m q) e

-- ---- where none starts

module _ (room : ℕ) (n : NetRecord) (t : Float) (m : Marking) (q : List Timer) where
  -- transition j does not start now
  abbrev pub Off : ℕ → Type 0
  Off j = (timed (transition n j) && enabled (readable n) m (transition n j)) ≡ false

  from_off : (j : ℕ) → j < n.transitions → Off j → pass_from room n t j m q ≡ pass_from room n t (j + 1) m q
  from_off j h e =
      from_next room n t m q j h
      ∙ ap (onward (pass_from room n t (j + 1))) (try_is room (readable n) t j (transition n j) m q false (ltb (length q) room) e refl)
      ∙ preceded_none (pass_from room n t (j + 1) m q)

  -- a pass goes on at the next one that may start
  pub from_skip : (d j : ℕ) → j + d ≤ n.transitions → ((i : ℕ) → j ≤ i → i < j + d → Off i) → pass_from room n t j m q ≡ pass_from room n t (j + d) m q
  from_skip zero j h f = let e : j + 0 ≡ j = omega arith in ap (λ (k : ℕ). pass_from room n t k m q) (sym e)
  from_skip (suc d) j h f =
      let e : (j + 1) + d ≡ j + suc d = omega arith in
      from_off j (omega arith) (f j (omega arith) (omega arith))
      ∙ from_skip d (j + 1) (omega arith) (λ i a b. f i (omega arith) (omega arith))
      ∙ ap (λ (k : ℕ). pass_from room n t k m q) e

  -- and ends where none is left
  pub from_none : (j : ℕ) → ((i : ℕ) → j ≤ i → i < n.transitions → Off i) → pass_from room n t j m q ≡ left [] m q
  from_none j f = go (dec_le j n.transitions)
    where
      go : Dec (j ≤ n.transitions) → pass_from room n t j m q ≡ left [] m q
      go (yes h) =
          from_skip (n.transitions - j) j (omega arith) (λ i a b. f i a (omega arith))
          ∙ from_end room n t m q (j + (n.transitions - j)) (omega arith)
      go (no h) = from_end room n t m q j (omega arith)

  pub passes_none : (k : ℕ) → ((i : ℕ) → i < n.transitions → Off i) → passes (suc k) room (readable n) t m q ≡ left [] m q
  passes_none k f =
      ap (unless_none (passes k room (readable n) t)) (sym (from_first room n t m q) ∙ from_none 0 (λ i a b. f i b))
