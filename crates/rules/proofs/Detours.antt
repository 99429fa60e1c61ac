-- Theory: rules of document 01 that the definitions state by a detour. A race with a0 > 0 always has a chosen transition; the passes
-- of a step do end with one in which none starts; a step that finds nothing left has changed nothing.
use Prim.Native.Nat.{ℕ, zero, suc, ◌+◌, ◌-◌, ◌*◌, ◌^◌, ◌≤◌, ◌<◌}
use mathlib.Core.Path.{◌≡◌, refl, sym, ap, ◌∙◌, subst}
use mathlib.Core.Bool.{Bool, true, false, ◌&&◌, cond, true≢false}
use mathlib.Core.Logic.{◌⊎◌, inl, inr, ◌≢◌}
use mathlib.Core.List.Memᴰ
use mathlib.Core.List.{List, [], ◌∷◌, ◌++◌, Memᴰ}
use mathlib.Core.Option.{Option, none, some}
use native.Mathlib.Nat.{mul-pos, zero-mul}
use native.Mathlib.Omega.{arith}
use lib.Dec.{ltb}
use lib.IntN.{ℤ}
use lib.ListN.{length, length-append}
use borrow.Author.Tests.{ltb-true, ltb-false, le-ltb}
use lib.Ieee.{Float, nan, inf, fin, binary64, up, down, round, units, odd, sum, add, mul, of_bits, lt, le}
use lib.Ieee.Fits.{up_pos, down_pos, round_is}
use lib.Ieee.Scale.{round_same}
use Rattle.net.specs.Net.{Transition, Net, Marking, pick, zero64, timed}
use Rattle.rules.specs.Enabled.{enabled}
use Rattle.rules.specs.Propensity.{propensities, summed, total}
use Rattle.rules.specs.Exact.{adds_rounded}
use Rattle.rng.specs.State.{State as Generator}
use Rattle.rng.specs.Xoshiro.{step as drawn, uniform}
use Rattle.rules.specs.Jump.{chosen_from, chosen}
use Rattle.rules.specs.Timers.{Timer, timer_of, insert, first, others}
use Rattle.rules.specs.Moves.{Entry, completed, fired, taking, move}
use Rattle.rules.specs.Step.{State, state, Answer, refused, given, Starts, preceded, pass, nobody, unless_none, passes, starts, waiting, drawn_for, Next, nothing_left, race, completion, next, Event, counts_fit, event, fire, Step, still, sets, set_clock, go_on, after_starts, step}
use Rattle.rules.proofs.Order.{never, lt_le}

-- ---- a0 > 0: something is chosen

-- not above 0: a NaN, -∞, a negative number or a zero
abbrev pub Low : Float → Type 0
Low nan = Unit
Low (inf s) = s ≡ true
Low (fin true m e) = Unit
Low (fin false m e) = m ≡ 0

pub low_is : (x : Float) → lt zero64 x ≡ false → Low x
unfolding lt of_bits
low_is nan p = tt
low_is (inf true) p = refl
low_is (inf false) p = never (sym p)
low_is (fin true m e) p = tt
low_is (fin false zero e) p = refl
low_is (fin false (suc m) e) p =
    absurd (let a : 0 < suc m * up e * 1 = mul-pos (mul-pos {m = suc m} (omega arith) (up_pos e)) (omega arith) in
    let b : suc m * up e * 1 ≤ 0 * down e = ltb-false _ _ p in
    omega (arith, zero-mul (down e)))

pub is_low : (x : Float) → Low x → lt zero64 x ≡ false
unfolding lt of_bits
is_low nan h = refl
is_low (inf true) h = refl
is_low (inf false) h = never h
is_low (fin true m e) h = refl
is_low (fin false m e) h = le-ltb (0 * down e) (m * up e * 1) (rw h (omega (arith, zero-mul (up e))))

-- a rounded negative fraction, and a rounded 0
units_low : (q k : ℕ) → Low (units binary64 true q k)
unfolding units odd
units_low q k = go (ltb (q * 2 ^ k) (2 ^ 2098)) q
  where
    go : (c : Bool) (q : ℕ) → Low (cond c (odd 54 true q k 1074) (inf true))
    go true zero = tt
    go true (suc q) = tt
    go false q = refl

negative_low : (n d : ℕ) → Low (round binary64 true n d)
negative_low n d = rw (round_is binary64 true n d) (units_low _ _)

zero_low : (n d : ℕ) → n ≡ 0 → 0 < d → Low (round binary64 false n d)
unfolding round units odd
zero_low n d e h = rw e (subst (λ (x : Float). Low x) (sym (round_same binary64 false 0 d 0 1 h (omega arith) (omega (arith, zero-mul d)))) refl)

sum_low : (s t : Bool) (a b c : ℕ) → 0 < c → (s ≡ false → a ≡ 0) → (t ≡ false → b ≡ 0) → Low (sum binary64 s a t b c)
unfolding sum
sum_low true true a b c h p q = negative_low (a + b) c
sum_low false false a b c h p q = zero_low (a + b) c (omega (arith, p refl, q refl)) h
sum_low true false a b c h p q = go (ltb a b) refl (ltb b a) refl
  where
    go : (x : Bool) → ltb a b ≡ x → (y : Bool) → ltb b a ≡ y
        → Low (cond x (round binary64 false (b - a) c) (round binary64 (true && y) (a - b) c))
    go true e y e' = absurd (omega (arith, ltb-true a b e, q refl))
    go false e true e' = negative_low _ c
    go false e false e' = zero_low _ c (omega (arith, ltb-false b a e')) h
sum_low false true a b c h p q = go (ltb a b)
  where
    go : (x : Bool) → Low (cond x (round binary64 true (b - a) c) (round binary64 false (a - b) c))
    go true = negative_low _ c
    go false = zero_low _ c (omega (arith, p refl)) h

add_low : (x y : Float) → Low x → Low y → Low (add binary64 x y)
unfolding add
add_low nan y h k = tt
add_low (inf s) nan h k = tt
add_low (inf true) (inf true) h k = refl
add_low (inf true) (inf false) h k = tt
add_low (inf false) (inf t) h k = never h
add_low (inf s) (fin t n d) h k = h
add_low (fin s m e) nan h k = tt
add_low (fin s m e) (inf t) h k = k
add_low (fin s m e) (fin t n d) h k =
    sum_low s t _ _ _ (mul-pos (down_pos e) (down_pos d)) (λ p. gone m (up e) (down d) (zero_of s m e p h)) (λ p. gone n (up d) (down e) (zero_of t n d p k))
  where
    zero_of : (s : Bool) (m : ℕ) (e : ℤ) → s ≡ false → Low (fin s m e) → m ≡ 0
    zero_of false m e p h = h
    zero_of true m e p h = never (sym p)

    gone : (m a b : ℕ) → m ≡ 0 → m * a * b ≡ 0
    gone m a b e = rw (e, zero-mul a) (zero-mul b)

-- where no propensity is positive, the total is not
summed_low : (a : Float) (xs : List Float) → Low a → ((x : Float) → Memᴰ x xs → lt zero64 x ≡ false) → Low (summed a xs)
summed_low a [] h k = h
summed_low a (x ∷ xs) h k =
    summed_low (add binary64 a x) xs (add_low a x h (low_is x (k x (Memᴰ.head refl)))) (λ y m. k y (Memᴰ.tail m))

-- none is chosen only where none is positive
none_from : (r s : Float) (j : ℕ) (last : Option ℕ) (xs : List Float) → chosen_from r s j last xs ≡ none
    → (last ≡ none) × ((x : Float) → Memᴰ x xs → lt zero64 x ≡ false)
none_from r s j last [] p = (p, λ x m. absurd (Memᴰ.not-nil m))
none_from r s j last (a ∷ xs) p =
    go (lt zero64 a) refl (le r (add binary64 s a)) p (λ l. none_from r (add binary64 s a) (suc j) l xs)
  where
    both_ways : lt zero64 a ≡ false → (last ≡ none) × ((x : Float) → Memᴰ x xs → lt zero64 x ≡ false)
        → (last ≡ none) × ((x : Float) → Memᴰ x (a ∷ xs) → lt zero64 x ≡ false)
    both_ways e h = (h.0, λ x m. at x (Memᴰ.cases_cons m))
      where
        at : (x : Float) → (x ≡ a) ⊎ Memᴰ x xs → lt zero64 x ≡ false
        at x (inl q) = rw q e
        at x (inr m) = h.1 x m

    go : (c : Bool) → lt zero64 a ≡ c → (d : Bool)
        → pick (c && d) (some j) (chosen_from r (add binary64 s a) (suc j) (pick c (some j) last) xs) ≡ none
        → ((l : Option ℕ) → chosen_from r (add binary64 s a) (suc j) l xs ≡ none → (l ≡ none) × ((x : Float) → Memᴰ x xs → lt zero64 x ≡ false))
        → (last ≡ none) × ((x : Float) → Memᴰ x (a ∷ xs) → lt zero64 x ≡ false)
    go true e true q ih = absurd (let z : ◌≡◌ {A = ℕ} 0 1 = cc in omega arith)
    go true e false q ih = absurd (let w : some j ≡ none = (ih (some j) q).0 in let z : ◌≡◌ {A = ℕ} 0 1 = cc in omega arith)
    go false e d q ih = both_ways e (ih last q)

zero_not_above : lt zero64 zero64 ≡ false
unfolding lt of_bits
zero_not_above = refl

pub chosen_some : (r : Float) (xs : List Float) → lt zero64 (total xs) ≡ true → chosen r xs ≢ none
chosen_some r xs p q =
    let low : lt zero64 (total xs) ≡ false =
    is_low (total xs) (summed_low zero64 xs (low_is zero64 zero_not_above) (none_from r zero64 0 none xs q).1) in
    true≢false (sym p ∙ low)

-- ---- passes until none starts

pub insert_length : (x : Timer) (q : List Timer) → length (insert x q) ≡ suc (length q)
insert_length x [] = refl
insert_length x (y ∷ ys) = go (lt x.at y.at) (insert_length x ys)
  where
    go : (c : Bool) → length (insert x ys) ≡ suc (length ys) → length (pick c (x ∷ y ∷ ys) (y ∷ insert x ys)) ≡ suc (suc (length ys))
    go true h = refl
    go false h = ap suc h

-- what starts do to counts m and timers q: each sets a timer, none beyond the room; without one nothing changes
pub record Timed (room : ℕ) (m : Marking) (q : List Timer) (b : Starts) : Type 0 where
  pub more : length b.timers ≡ length q + length b.who
  pub few : length b.timers ≤ room
  pub nothing : nobody b.who ≡ true → (b.counts ≡ m) × (b.timers ≡ q)

abbrev TimedBy : ℕ → Marking → List Timer → Answer Starts → Type 0
TimedBy room m q (refused c) = Unit
TimedBy room m q (given b) = Timed room m q b

timed_one : (room : ℕ) (m m' : Marking) (q q' : List Timer) (j : ℕ) → length q' ≡ suc (length q) → (r : Answer Starts) → TimedBy room m' q' r → TimedBy room m q (preceded (j ∷ []) r)
timed_one room m m' q q' j e (refused c) h = tt
timed_one room m m' q q' j e (given b) h =
    let a : length b.timers ≡ length q' + length b.who = h.more in
    record { more = omega arith; few = h.few; nothing = λ p. never p }

timed_none : (room : ℕ) (m : Marking) (q : List Timer) → length q ≤ room → Timed room m q (record { who = []; counts = m; timers = q })
timed_none room m q h = record { more = omega arith; few = h; nothing = λ p. (refl, refl) }

none_started : (b : Starts) (m : Marking) (q : List Timer) → b.who ≡ [] → b.counts ≡ m → b.timers ≡ q
    → ◌≡◌ {A = Answer Starts} (given b) (given (record { who = []; counts = m; timers = q }))
none_started b m q z c t = rw (← z, ← c, ← t)

module _ (room : ℕ) (n : Net) (t : Float) where
  pass_timed : (j : ℕ) (rest : List Transition) (m : Marking) (q : List Timer) → length q ≤ room → TimedBy room m q (pass room n t j rest m q)
  pass_timed j [] m q h = timed_none room m q h
  pass_timed j (this ∷ rest) m q h =
      go (timed this && enabled n m this) (ltb (length q) room) refl (pass_timed (suc j) rest m q h)
      (pass_timed (suc j) rest (taking m this.takes) (insert (timer_of t j this) q))
    where
      x : Timer
      x = timer_of t j this

      go : (c d : Bool) → ltb (length q) room ≡ d → TimedBy room m q (pass room n t (suc j) rest m q)
          → (length (insert x q) ≤ room → TimedBy room (taking m this.takes) (insert x q) (pass room n t (suc j) rest (taking m this.takes) (insert x q)))
          → TimedBy room m q (pick c (pick d (preceded (j ∷ []) (pass room n t (suc j) rest (taking m this.takes) (insert x q))) (refused 15)) (pass room n t (suc j) rest m q))
      go false d e a b = a
      go true false e a b = tt
      go true true e a b =
          timed_one room m (taking m this.takes) q (insert x q) j (insert_length x q) (pass room n t (suc j) rest (taking m this.takes) (insert x q))
          (b (omega (arith, insert_length x q, ltb-true (length q) room e)))

  -- a further pass on these counts and timers starts none
  abbrev pub Done : Marking → List Timer → Type 0
  Done m q = pass room n t 0 n.transitions m q ≡ given (record { who = []; counts = m; timers = q })

  abbrev DoneBy : Answer Starts → Type 0
  DoneBy (refused c) = Unit
  DoneBy (given b) = Done b.counts b.timers

  done_preceded : (js : List ℕ) (r : Answer Starts) → DoneBy r → DoneBy (preceded js r)
  done_preceded js (refused c) h = tt
  done_preceded js (given b) h = h

  somebody : (js : List ℕ) → nobody js ≡ false → 0 < length js
  somebody [] p = never (sym p)
  somebody (j ∷ js) p = omega arith

  no_one : (js : List ℕ) → nobody js ≡ true → js ≡ []
  no_one [] p = refl
  no_one (j ∷ js) p = never p

  passes_done : (k : ℕ) (m : Marking) (q : List Timer) → length q ≤ room → suc room ≤ k + length q → DoneBy (passes k room n t m q)
  passes_done zero m q h f = absurd (omega arith)
  passes_done (suc k) m q h f = go (pass room n t 0 n.transitions m q) refl (pass_timed 0 n.transitions m q h) (λ m' q' h' f'. passes_done k m' q' h' f')
    where
      go : (r : Answer Starts) → pass room n t 0 n.transitions m q ≡ r → TimedBy room m q r
          → ((m' : Marking) (q' : List Timer) → length q' ≤ room → suc room ≤ k + length q' → DoneBy (passes k room n t m' q'))
          → DoneBy (unless_none (passes k room n t) r)
      go (refused c) e w ih = tt
      go (given b) e w ih = last (nobody b.who) refl
        where
          last : (c : Bool) → nobody b.who ≡ c → DoneBy (pick c (given b) (preceded b.who (passes k room n t b.counts b.timers)))
          last true p =
              let u : (b.counts ≡ m) × (b.timers ≡ q) = w.nothing p in
              let z : b.who ≡ [] = no_one b.who p in
              rw (u.0, u.1) (e ∙ none_started b m q z u.0 u.1)
          last false p =
              done_preceded b.who (passes k room n t b.counts b.timers) (ih b.counts b.timers w.few (omega (arith, w.more, somebody b.who p)))

-- "in passes … until none starts": after a step's starts no further pass starts anything
pub starts_done : (room : ℕ) (n : Net) (s : State) → length s.timers ≤ room → (b : Starts) → starts room n s ≡ given b → Done room n s.clock b.counts b.timers
starts_done room n s h b p = subst (λ (r : Answer Starts). DoneBy room n s.clock r) p (passes_done room n s.clock (suc room) s.counts s.timers h (omega arith))

-- ---- timers: at most so many as there is room for, throughout, and a step that finds nothing left has changed nothing

nobody_append : (js is : List ℕ) → nobody js ≡ false → nobody (js ++ is) ≡ false
nobody_append [] is p = never (sym p)
nobody_append (j ∷ js) is p = refl

timed_more : (room : ℕ) (m : Marking) (q : List Timer) (b : Starts) → Timed room m q b → nobody b.who ≡ false
    → (r : Answer Starts) → TimedBy room b.counts b.timers r → TimedBy room m q (preceded b.who r)
timed_more room m q b w p (refused c) h = tt
timed_more room m q b w p (given b') h =
    let x : length b.timers ≡ length q + length b.who = w.more in
    let y : length b'.timers ≡ length b.timers + length b'.who = h.more in
    record {
      more = omega (arith, length-append b.who b'.who);
      few = h.few;
      nothing = λ e. absurd (true≢false (sym e ∙ nobody_append b.who b'.who p));
    }

passes_timed : (room : ℕ) (n : Net) (t : Float) (k : ℕ) (m : Marking) (q : List Timer) → length q ≤ room → TimedBy room m q (passes k room n t m q)
passes_timed room n t zero m q h = timed_none room m q h
passes_timed room n t (suc k) m q h = go (pass room n t 0 n.transitions m q) (pass_timed room n t 0 n.transitions m q h) (λ m' q' h'. passes_timed room n t k m' q' h')
  where
    go : (r : Answer Starts) → TimedBy room m q r → ((m' : Marking) (q' : List Timer) → length q' ≤ room → TimedBy room m' q' (passes k room n t m' q'))
        → TimedBy room m q (unless_none (passes k room n t) r)
    go (refused c) w ih = tt
    go (given b) w ih = last (nobody b.who) refl
      where
        last : (c : Bool) → nobody b.who ≡ c → TimedBy room m q (pick c (given b) (preceded b.who (passes k room n t b.counts b.timers)))
        last true p = w
        last false p = timed_more room m q b w p (passes k room n t b.counts b.timers) (ih b.counts b.timers w.few)

-- a step leaves no more timers than there is room for
abbrev EventRoom : ℕ → Answer Event → Type 0
EventRoom room (refused c) = Unit
EventRoom room (given ev) = length ev.leaves.timers ≤ room

abbrev pub StepRoom : ℕ → Answer Step → Type 0
StepRoom room (refused c) = Unit
StepRoom room (given (still b)) = Unit
StepRoom room (given (sets b js u e)) = (length u.timers ≤ room) × EventRoom room e

event_room : (room : ℕ) (n : Net) (u : State) (e : Entry) (q : List Timer) (g : Generator) → length q ≤ room → EventRoom room (event n u e q g)
event_room room n u e q g h = go (counts_fit (move n u.counts e))
  where
    go : (c : Bool) → EventRoom room (pick c (given (record { what = e ∷ []; leaves = state u.clock (move n u.counts e) q g })) (refused 14))
    go true = h
    go false = tt

others_room : (room : ℕ) (q : List Timer) → length q ≤ room → length (others q) ≤ room
others_room room [] h = h
others_room room (x ∷ xs) h = omega arith

fire_room : (room : ℕ) (n : Net) (u : State) (o : Option ℕ) → length u.timers ≤ room → EventRoom room (fire n u o)
fire_room room n u none h = h
fire_room room n u (some j) h = event_room room n u (fired j) u.timers u.generator h

go_on_room : (room : ℕ) (n : Net) (b : Bool) (js : List ℕ) (v : State) (a0 : Float) (xs : List Float) (x : Next) → length v.timers ≤ room → StepRoom room (given (go_on n b js v a0 xs x))
go_on_room room n b js v a0 xs nothing_left h = tt
go_on_room room n b js v a0 xs (race dt) h =
    let u : State = set_clock (add binary64 v.clock dt) v in
    (h, fire_room room n (state u.clock u.counts u.timers (drawn u.generator)) (chosen (mul binary64 (uniform u.generator) a0) xs) h)
go_on_room room n b js v a0 xs (completion at) h =
    let u : State = set_clock at v in
    (h, event_room room n u (completed (first u.timers).who) (others u.timers) u.generator (others_room room v.timers h))

pub step_room : (room : ℕ) (n : Net) (s : State) → length s.timers ≤ room → StepRoom room (step room n s)
step_room room n s h = go (starts room n s) (passes_timed room n s.clock (suc room) s.counts s.timers h)
  where
    go : (r : Answer Starts) → TimedBy room s.counts s.timers r → StepRoom room (after_starts n s r)
    go (refused c) w = tt
    go (given b) w =
        let a0 : Float = total (propensities n b.counts) in
        let v : State = state s.clock b.counts b.timers (drawn_for a0 s.generator) in
        go_on_room room n (adds_rounded n b.counts) b.who v a0 (propensities n b.counts) (next a0 s.clock (waiting a0 s.generator) b.timers) w.few

-- where no timer runs after the starts, none started and the counts are as they were
pub still_same : (room : ℕ) (n : Net) (s : State) → length s.timers ≤ room → (b : Starts) → starts room n s ≡ given b → b.timers ≡ []
    → (b.counts ≡ s.counts) × (s.timers ≡ [])
still_same room n s h b p z =
    let w : Timed room s.counts s.timers b = subst (λ (r : Answer Starts). TimedBy room s.counts s.timers r) p (passes_timed room n s.clock (suc room) s.counts s.timers h) in
    let e : length b.timers ≡ 0 = ap length z in
    let u : (b.counts ≡ s.counts) × (b.timers ≡ s.timers) = w.nothing (empty b.who (omega (arith, w.more))) in
    (u.0, sym u.1 ∙ z)
  where
    empty : (js : List ℕ) → length js ≡ 0 → nobody js ≡ true
    empty [] p = refl
    empty (j ∷ js) p = absurd (omega arith)

-- and where a0 ≤ 0 nothing was drawn
pub not_drawn : (a0 : Float) (g : Generator) → le a0 zero64 ≡ true → drawn_for a0 g ≡ g
not_drawn a0 g h = go (lt zero64 a0) refl
  where
    go : (c : Bool) → lt zero64 a0 ≡ c → pick c (drawn g) g ≡ g
    go false e = refl
    go true e = absurd (true≢false (sym (lt_le zero64 a0 zero64 e h) ∙ zero_not_above))
