-- The list that a table of slots is, read from place p on. What a function does to the slots is said place by place, and the laws here read
-- the list off. Places within 256 of each other have slots of their own (apart).
use Prim.Native.Nat.{ℕ, zero, suc, ◌+◌, ◌%◌, ◌≤◌, ◌<◌}
use mathlib.Core.Path.{◌≡◌, refl, sym, ap, ap₂, ◌∙◌}
use mathlib.Core.Bool.{true, false, and-false}
use mathlib.Core.Logic.{⊎_elim}
use mathlib.Core.List.{List, [], ◌∷◌}
use native.Mathlib.Nat.{eq-or-lt_of_le}
use native.Mathlib.Omega.{arith}
use lib.ListN.{length, get_or}
use lib.Ieee.{Float, lt}
use Rattle.rules.specs.Timers.{Timer, insert, first}
use Rattle.timers.specs.InOrder.{insert_last, all_later}
use Rattle.timers.specs.Turning.{idle, from}
use Rattle.timers.specs.Slots.{Stored, MovedUp}

-- ---- places

-- two places of one list have two slots
pub apart : (s a b : ℕ) → s ≤ a → a < b → b < s + 256 → a % 256 ≡ b % 256 → ⊥
apart s a b h l u e = omega arith

-- ---- the list

pub length_from : (f : ℕ → Timer) (p n : ℕ) → length (from f p n) ≡ n
length_from f p zero = refl
length_from f p (suc n) = ap suc (length_from f (suc p) n)

-- a place counts modulo 256
pub from_mod : (f : ℕ → Timer) (p q n : ℕ) → p % 256 ≡ q % 256 → from f p n ≡ from f q n
from_mod f p q zero e = refl
from_mod f p q (suc n) e = ap₂ ◌∷◌ (ap f e) (from_mod f (suc p) (suc q) n (omega arith))

pub from_at : (f : ℕ → Timer) (p n i : ℕ) → i < n → get_or (from f p n) i idle ≡ f ((p + i) % 256)
from_at f p zero i h = absurd (no h)
  where
    no : i < 0 → ⊥
    no l = omega arith
from_at f p (suc n) zero h = ap (λ (k : ℕ). f (k % 256)) (omega arith)
from_at f p (suc n) (suc i) h =
    let e : suc p + i ≡ p + suc i = omega arith in
    from_at f (suc p) n i (omega arith) ∙ ap (λ (k : ℕ). f (k % 256)) e

pub from_past : (f : ℕ → Timer) (p n i : ℕ) → n ≤ i → get_or (from f p n) i idle ≡ idle
from_past f p zero i h = refl
from_past f p (suc n) zero h = absurd (no h)
  where
    no : suc n ≤ 0 → ⊥
    no l = omega arith
from_past f p (suc n) (suc i) h = from_past f (suc p) n i (omega arith)

pub first_is : (t : Timer) (xs : List Timer) → t ≡ get_or xs 0 idle → t ≡ first xs
first_is t [] e = e
first_is t (x ∷ xs) e = e

module _ (f g : ℕ → Timer) where
  -- the same timers in the same places
  pub from_same : (p n : ℕ) → ((k : ℕ) → p ≤ k → k < p + n → g (k % 256) ≡ f (k % 256)) → from g p n ≡ from f p n
  from_same p zero h = refl
  from_same p (suc n) h = ap₂ ◌∷◌ (h p (omega arith) (omega arith)) (from_same (suc p) n (λ k l u. h k (omega arith) (omega arith)))

  -- the same timers, one place further up
  pub from_up : (p n : ℕ) → ((k : ℕ) → p ≤ k → k < p + n → g (suc k % 256) ≡ f (k % 256)) → from g (suc p) n ≡ from f p n
  from_up p zero h = refl
  from_up p (suc n) h = ap₂ ◌∷◌ (h p (omega arith) (omega arith)) (from_up (suc p) n (λ k l u. h k (omega arith) (omega arith)))

-- ---- an insertion

all_later_lem : (t : Float) (f : ℕ → Timer) (p n : ℕ) → ((k : ℕ) → p ≤ k → k < p + n → lt t (f (k % 256)).at ≡ true) → all_later t (from f p n) ≡ true
all_later_lem t f p zero h = refl
all_later_lem t f p (suc n) h = rw (h p (omega arith) (omega arith)) (all_later_lem t f (suc p) n (λ k l u. h k (omega arith) (omega arith)))

one_earlier : (t : Float) (f : ℕ → Timer) (p n k : ℕ) → p ≤ k → k < p + n → lt t (f (k % 256)).at ≡ false → all_later t (from f p n) ≡ false
one_earlier t f p zero k l u h = absurd (no l u)
  where
    no : p ≤ k → k < p + 0 → ⊥
    no b c = omega arith
one_earlier t f p (suc n) k l u h =
    ⊎_elim here (λ q. rw (one_earlier t f (suc p) n k (omega arith) (omega arith) h) (and-false (lt t (f (p % 256)).at))) (eq-or-lt_of_le l)
  where
    here : p ≡ k → all_later t (from f p (suc n)) ≡ false
    here q = let test : lt t (f (p % 256)).at ≡ false = ap (λ (i : ℕ). lt t (f (i % 256)).at) q ∙ h in rw test refl

-- x stands at place p, the timers from p to before e one place further up; those from s to before p, and those beyond e, where they did
pub record Placed (s p e : ℕ) (x : Timer) (f g : ℕ → Timer) : Type 0 where
  pub below : (k : ℕ) → s ≤ k → k < p → g (k % 256) ≡ f (k % 256)
  pub here : g (p % 256) ≡ x
  pub above : (k : ℕ) → p ≤ k → k < e → g (suc k % 256) ≡ f (k % 256)
  pub beyond : (k : ℕ) → e < k → k < s + 256 → g (k % 256) ≡ f (k % 256)

-- the room that a move makes is filled
pub filled : (s p e : ℕ) {a : ℕ} {x : Timer} (f m g : ℕ → Timer) → s ≤ p → p ≤ e → e < s + 256 → MovedUp s p e f m → a ≡ p % 256 → Stored a x m g → Placed s p e x f g
filled s p e {a} {x} f m g l h w up q st' =
    record {
      below = λ k b u. st.rest (k % 256) (λ r. apart s k p b u (omega arith) r) ∙ up.below k b u;
      here = st.here;
      above = λ k b u. st.rest (suc k % 256) (λ r. apart s p (suc k) l (omega arith) (omega arith) (sym r)) ∙ up.above k b u;
      beyond = λ k b u. st.rest (k % 256) (λ r. apart s p k l (omega arith) u (sym r)) ∙ up.beyond k b u;
    }
  where
    st : Stored (p % 256) x m g
    st = rw q at st'

module _ (s p e : ℕ) (x : Timer) (f g : ℕ → Timer) (put : Placed s p e x f g) where
  -- p is in front of the first that completes later
  module _ (earlier : (k : ℕ) → s ≤ k → k < p → lt x.at (f (k % 256)).at ≡ false) (later : p < e → lt x.at (f (p % 256)).at ≡ true) where
    -- from place i on, of which there are m, with r to go to p
    pub front : (i m r : ℕ) → s ≤ i → i + m ≡ e → i + r ≡ p → r ≤ m → from g i (suc m) ≡ insert x (from f i m)
    front i zero zero b q t h =
        let at_p : p ≡ i = omega arith in
        ap₂ ◌∷◌ (rw at_p at put.here) refl
    front i zero (suc r) b q t h = absurd (no h)
      where
        no : suc r ≤ 0 → ⊥
        no l = omega arith
    front i (suc m) zero b q t h =
        let at_p : p ≡ i = omega arith in
        let rest = from_up f g i (suc m) (λ k l u. put.above k (omega arith) (omega arith)) in
        let test : lt x.at (f (i % 256)).at ≡ true = rw at_p at (later (omega arith)) in
        rw test (ap₂ ◌∷◌ (rw at_p at put.here) rest)
    front i (suc m) (suc r) b q t h =
        let rest = front (suc i) m r (omega arith) (omega arith) (omega arith) (omega arith) in
        let test : lt x.at (f (i % 256)).at ≡ false = earlier i b (omega arith) in
        rw test (ap₂ ◌∷◌ (put.below i b (omega arith)) rest)

  -- p is behind the last that does not complete later
  module _ (later : (k : ℕ) → p ≤ k → k < e → lt x.at (f (k % 256)).at ≡ true) (earlier : (k : ℕ) → s ≤ k → suc k ≡ p → lt x.at (f (k % 256)).at ≡ false)
    where
      pub behind : (i m r : ℕ) → s ≤ i → i + m ≡ e → i + r ≡ p → r ≤ m → from g i (suc m) ≡ insert_last x (from f i m)
      behind i zero zero b q t h =
          let at_p : p ≡ i = omega arith in
          ap₂ ◌∷◌ (rw at_p at put.here) refl
      behind i zero (suc r) b q t h = absurd (no h)
        where
          no : suc r ≤ 0 → ⊥
          no l = omega arith
      behind i (suc m) zero b q t h =
          let at_p : p ≡ i = omega arith in
          let rest = from_up f g i (suc m) (λ k l u. put.above k (omega arith) (omega arith)) in
          let test = all_later_lem x.at f i (suc m) (λ k l u. later k (omega arith) (omega arith)) in
          rw test (ap₂ ◌∷◌ (rw at_p at put.here) rest)
      behind i (suc m) (suc r) b q t h =
          let rest = behind (suc i) m r (omega arith) (omega arith) (omega arith) (omega arith) in
          let test = one_earlier x.at f i (suc m) (i + r) (omega arith) (omega arith) (earlier (i + r) (omega arith) (omega arith)) in
          rw test (ap₂ ◌∷◌ (put.below i b (omega arith)) rest)
