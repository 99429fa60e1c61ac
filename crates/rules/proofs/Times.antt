-- Times: a sum with a positive delay is not before its time, and finite where both are bounded; sums and quotients of what is not below 0 are not.
use Prim.Native.Nat.{ℕ, zero, suc, ◌+◌, ◌-◌, ◌*◌, ◌^◌, ◌≤◌, ◌<◌}
use mathlib.Core.Path.{◌≡◌, refl, sym, ap, ◌∙◌, subst}
use mathlib.Core.Bool.{Bool, true, false, ◌&&◌, cond}
use mathlib.Core.Logic.{◌⊎◌, inl, inr}
use native.Mathlib.Nat.{mul-pos, zero-mul, mul-one, mul-le-mul_right, le_trans, le_of_eq}
use native.Mathlib.Omega.{arith}
use borrow.Author.Tests.{ltb-true, lt-ltb, eqb-true, ne_eqb}
use lib.Dec.{T, ltb, eqb}
use lib.IntN.{ℤ, pos}
use lib.Ieee.{Float, nan, inf, fin, binary64, up, down, round, units, odd, sum, add, div, neg, of_bits, lt, le, eq, fits, is_nan}
use lib.Ieee.Fits.{up_pos, down_pos}
use lib.Ieee.Bits.{is_true}
use lib.Ieee.Scale.{round_same}
use lib.Ieee.Order.{round_mono}
use Rattle.net.specs.Net.{zero64}
use Rattle.rules.specs.Change.{time_fits}
use Rattle.rules.proofs.Order as Order
use Rattle.rules.proofs.Order.{never, either, both}
use Rattle.rules.proofs.Rounded.{Plus, round_plus}
use Rattle.rules.proofs.Sums.{NotNegative, infinite, finite, not_negative, plus_above, add_grows}
use Rattle.rules.proofs.Detours.{Low, is_low}

-- ---- signs

plus_lt : (x : Float) (m : ℕ) (e : ℤ) → Plus x → lt x (fin true m e) ≡ false
unfolding lt
plus_lt nan m e p = absurd p
plus_lt (inf true) m e p = never (sym p)
plus_lt (inf false) m e p = refl
plus_lt (fin true k d) m e p = never (sym p)
plus_lt (fin false k d) m e p = refl

-- ---- a bound

pub under : (x : Float) (m : ℕ) (e : ℤ) → le x (fin false m e) ≡ true → lt x (inf false) ≡ true
unfolding le lt eq
under nan m e p = never p
under (inf true) m e p = refl
under (inf false) m e p = never p
under (fin s k d) m e p = refl

pub cross : (m : ℕ) (e : ℤ) (n : ℕ) (d : ℤ) → le (fin false m e) (fin false n d) ≡ true → m * up e * down d ≤ n * up d * down e
unfolding le lt eq
cross m e n d p = go (either (ltb (m * up e * down d) (n * up d * down e)) (eqb (m * up e * down d) (n * up d * down e) && true) p)
  where
    go : (ltb (m * up e * down d) (n * up d * down e) ≡ true) ⊎ (eqb (m * up e * down d) (n * up d * down e) && true ≡ true) → m * up e * down d ≤ n * up d * down e
    go (inl q) = omega (arith, ltb-true (m * up e * down d) (n * up d * down e) q)
    go (inr q) = omega (arith, eqb-true (m * up e * down d) (n * up d * down e) (both (eqb (m * up e * down d) (n * up d * down e)) true q).0)

-- 2^31, 2^30, and their sum
abbrev pub most : Float
most = of_bits binary64 0x41E0_0000_0000_0000

abbrev pub longest : Float
longest = of_bits binary64 0x41D0_0000_0000_0000

pub most_is : most ≡ fin false 1 (pos 31)
unfolding of_bits
most_is = refl

longest_is : longest ≡ fin false 1 (pos 30)
unfolding of_bits
longest_is = refl

sum_is : round binary64 false (2 ^ 31 + 2 ^ 30) 1 ≡ fin false 3 (pos 30)
unfolding round
sum_is = refl

-- ---- the completion time that a start sets

-- a time: finite, and 0 or above it
data Time : Float → Type 0 where
  above : (m : ℕ) (e : ℤ) → Time (fin false m e)
  nought : (e : ℤ) → Time (fin true 0 e)

time_is : (t : Float) → le zero64 t ≡ true → lt t (inf false) ≡ true → Time t
unfolding lt
time_is t p q = go t (not_negative t p) q
  where
    go : (t : Float) → NotNegative t → lt t (inf false) ≡ true → Time t
    go nan (finite h) q = absurd h
    go (inf s) infinite q = never q
    go (inf s) (finite h) q = absurd h
    go (fin false m e) (finite h) q = above m e
    go (fin true m e) (finite h) q = subst (λ (k : ℕ). Time (fin true k e)) (sym h) (nought e)

data Delay : Float → Type 0 where
  some_delay : (n : ℕ) (e : ℤ) → Delay (fin false (suc n) e)

delay_is : (d : Float) → lt zero64 d ≡ true → lt d (inf false) ≡ true → Delay d
unfolding lt of_bits
delay_is nan p q = never p
delay_is (inf true) p q = never p
delay_is (inf false) p q = never q
delay_is (fin true n e) p q = never p
delay_is (fin false zero e) p q = never (sym (is_low (fin false zero e) refl) ∙ p)
delay_is (fin false (suc n) e) p q = some_delay n e

pub not_lt : (x y : Float) → le y x ≡ true → lt x y ≡ false
not_lt x y h = go (lt x y) refl
  where
    go : (c : Bool) → lt x y ≡ c → c ≡ false
    go false p = refl
    go true p = let w : lt x x ≡ true = Order.lt_le x y x p h in sym (sym (Order.lt_asym x x w) ∙ w)

abbrev pub Later : Float → Float → Type 0
Later t d = (lt (add binary64 t d) t ≡ false) × (time_fits (add binary64 t d) ≡ true)

fits_time : (x : Float) → Plus x → le x (round binary64 false (2 ^ 31 + 2 ^ 30) 1) ≡ true → time_fits x ≡ true
fits_time x p q =
    let a : le zero64 x ≡ true = plus_above x p in
    let b : lt x (inf false) ≡ true = under x 3 (pos 30) (sym (ap (le x) sum_is) ∙ q) in
    rw (a, b)

sum_fits : (a c : ℕ) → 0 < c → a ≤ (2 ^ 31 + 2 ^ 30) * c → time_fits (round binary64 false a c) ≡ true
sum_fits a c z h =
    fits_time (round binary64 false a c) (round_plus binary64 a c) (is_true _ (round_mono binary64 a c (2 ^ 31 + 2 ^ 30) 1 z (omega arith) (le_trans (le_of_eq (mul-one a)) h)))

time_later : (t d : Float) → Time t → Delay d → T (fits binary64 t) → le t most ≡ true → le d longest ≡ true → Later t d
unfolding add sum
time_later t d (above m e) (some_delay n k) whole early short =
    let c : ℕ = down e * down k in
    let x : m * up e * 1 ≤ 1 * 2 ^ 31 * down e = cross m e 1 (pos 31) (ap (le (fin false m e)) (sym most_is) ∙ early) in
    let y : suc n * up k * 1 ≤ 1 * 2 ^ 30 * down k = cross (suc n) k 1 (pos 30) (ap (le (fin false (suc n) k)) (sym longest_is) ∙ short) in
    let x' : m * up e * down k ≤ 2 ^ 31 * down e * down k = mul-le-mul_right (down k) (omega arith) in
    let y' : suc n * up k * down e ≤ 2 ^ 30 * down k * down e = mul-le-mul_right (down e) (omega arith) in (
      not_lt _ _ (add_grows binary64 (fin false m e) (fin false (suc n) k) refl whole (finite tt)),
      sum_fits (m * up e * down k + suc n * up k * down e) c (mul-pos (down_pos e) (down_pos k)) (omega arith),
    )
time_later t d (nought e) (some_delay n k) whole early short =
    let b : ℕ = suc n * up k * down e in
    let z : 0 * up e * down k ≡ 0 = ap (λ (x : ℕ). x * down k) (zero-mul (up e)) ∙ zero-mul (down k) in
    let p : 0 < suc n * up k * down e = mul-pos (mul-pos {m = suc n} (omega arith) (up_pos k)) (down_pos e) in
    let w : ltb (0 * up e * down k) b ≡ true = lt-ltb (0 * up e * down k) b (omega arith) in
    let y : suc n * up k * 1 ≤ 1 * 2 ^ 30 * down k = cross (suc n) k 1 (pos 30) (ap (le (fin false (suc n) k)) (sym longest_is) ∙ short) in
    let y' : suc n * up k * down e ≤ 2 ^ 30 * down k * down e = mul-le-mul_right (down e) (omega arith) in
    rw w (
      plus_lt _ 0 e (round_plus binary64 (b - 0 * up e * down k) (down e * down k)),
      sum_fits (b - 0 * up e * down k) (down e * down k) (mul-pos (down_pos e) (down_pos k)) (omega arith),
    )

-- "A start … sets a timer to t + delay": not before the clock, and a time
pub sets_later : (t d : Float) → time_fits t ≡ true → fits binary64 t ≡ true → le t most ≡ true → lt zero64 d ≡ true → le d longest ≡ true → Later t d
sets_later t d fit whole early late short =
    let w : (le zero64 t ≡ true) × (lt t (inf false) ≡ true) = both (le zero64 t) (lt t (inf false)) fit in
    time_later t d (time_is t w.0 w.1) (delay_is d late (under d 1 (pos 30) (sym (ap (le d) longest_is) ∙ short))) (subst T (sym whole) tt) early short

-- ---- not below 0

abbrev pub High : Float → Type 0
High nan = Unit
High (inf s) = s ≡ false
High (fin true m e) = m ≡ 0
High (fin false m e) = Unit

pub high_neg : (x : Float) → Low x → High (neg x)
unfolding neg
high_neg nan h = tt
high_neg (inf true) h = refl
high_neg (inf false) h = never h
high_neg (fin true m e) h = tt
high_neg (fin false m e) h = h

plus_high : (x : Float) → Plus x → High x
plus_high nan p = tt
plus_high (inf s) p = p
plus_high (fin true m e) p = never (sym p)
plus_high (fin false m e) p = tt

positive_high : (a c : ℕ) → High (round binary64 false a c)
positive_high a c = plus_high (round binary64 false a c) (round_plus binary64 a c)

zero_high : (a c : ℕ) → a ≡ 0 → 0 < c → High (round binary64 true a c)
unfolding round units odd
zero_high a c e h = rw e (subst (λ (x : Float). High x) (sym (round_same binary64 true 0 c 0 1 h (omega arith) (omega (arith, zero-mul c)))) refl)

sum_high : (s t : Bool) (a b c : ℕ) → 0 < c → (s ≡ true → a ≡ 0) → (t ≡ true → b ≡ 0) → High (sum binary64 s a t b c)
unfolding sum
sum_high false false a b c h p q = positive_high (a + b) c
sum_high true true a b c h p q = zero_high (a + b) c (omega (arith, p refl, q refl)) h
sum_high false true a b c h p q = go (ltb a b) refl
  where
    go : (x : Bool) → ltb a b ≡ x → High (cond x (round binary64 true (b - a) c) (round binary64 false (a - b) c))
    go true e = absurd (omega (arith, ltb-true a b e, q refl))
    go false e = positive_high (a - b) c
sum_high true false a b c h p q = go (ltb a b) (ltb b a) refl
  where
    go : (x y : Bool) → ltb b a ≡ y → High (cond x (round binary64 false (b - a) c) (round binary64 y (a - b) c))
    go true y e = positive_high (b - a) c
    go false true e = absurd (omega (arith, ltb-true b a e, p refl))
    go false false e = positive_high (a - b) c

pub add-high : (x y : Float) → High x → High y → High (add binary64 x y)
unfolding add
add-high nan y h k = tt
add-high (inf s) nan h k = tt
add-high (inf false) (inf false) h k = refl
add-high (inf false) (inf true) h k = never (sym k)
add-high (inf true) (inf t) h k = never (sym h)
add-high (inf s) (fin t n d) h k = h
add-high (fin s m e) nan h k = tt
add-high (fin s m e) (inf t) h k = k
add-high (fin s m e) (fin t n d) h k =
    sum_high s t _ _ _ (mul-pos (down_pos e) (down_pos d)) (λ p. gone m (up e) (down d) (zero_of s m e p h)) (λ p. gone n (up d) (down e) (zero_of t n d p k))
  where
    zero_of : (s : Bool) (m : ℕ) (e : ℤ) → s ≡ true → High (fin s m e) → m ≡ 0
    zero_of true m e p h = h
    zero_of false m e p h = never p

    gone : (m a b : ℕ) → m ≡ 0 → m * a * b ≡ 0
    gone m a b e = rw (e, zero-mul a) (zero-mul b)

-- by a number above 0
pub div_high : (x y : Float) → High x → lt zero64 y ≡ true → High (div binary64 x y)
unfolding div lt of_bits
div_high nan y h p = tt
div_high (inf s) nan h p = tt
div_high (inf s) (inf t) h p = tt
div_high (inf s) (fin true n d) h p = never p
div_high (inf true) (fin false n d) h p = never (sym h)
div_high (inf false) (fin false n d) h p = refl
div_high (fin s m e) nan h p = tt
div_high (fin true m e) (inf true) h p = tt
div_high (fin true m e) (inf false) h p = refl
div_high (fin false m e) (inf true) h p = refl
div_high (fin false m e) (inf false) h p = tt
div_high (fin s m e) (fin true n d) h p = never p
div_high (fin s m e) (fin false zero d) h p = never (sym (is_low (fin false zero d) refl) ∙ p)
div_high (fin false m e) (fin false (suc n) d) h p = rw (ne_eqb (suc n) 0 (λ q. omega arith)) (positive_high (m * up e * down d) (suc n * up d * down e))
div_high (fin true m e) (fin false (suc n) d) h p =
    rw (ne_eqb (suc n) 0 (λ q. omega arith))
    (zero_high (m * up e * down d) (suc n * up d * down e) (ap (λ (x : ℕ). x * up e * down d) h ∙ ap (λ (x : ℕ). x * down d) (zero-mul (up e)) ∙ zero-mul (down d))
    (mul-pos (mul-pos {m = suc n} (omega arith) (up_pos d)) (down_pos e)))

-- what is not below 0 and no NaN is at least 0, and a time is not below 0
nought_le : (e : ℤ) → le zero64 (fin true 0 e) ≡ true
unfolding le lt eq of_bits
nought_le e =
    let a : 0 * down e ≡ 0 = zero-mul (down e) in
    let b : 0 * up e * 1 ≡ 0 = ap (λ (x : ℕ). x * 1) (zero-mul (up e)) in
    rw (a, b)

pub high_le : (x : Float) → High x → is_nan x ≡ false → le zero64 x ≡ true
unfolding is_nan
high_le nan h n = never (sym n)
high_le (inf true) h n = never (sym h)
high_le (inf false) h n = plus_above (inf false) refl
high_le (fin false m e) h n = plus_above (fin false m e) refl
high_le (fin true m e) h n = rw h (nought_le e)

pub time_high : (t : Float) → time_fits t ≡ true → High t
time_high t fit =
    let w : (le zero64 t ≡ true) × (lt t (inf false) ≡ true) = both (le zero64 t) (lt t (inf false)) fit in
    go t (time_is t w.0 w.1)
  where
    go : (t : Float) → Time t → High t
    go t (above m e) = tt
    go t (nought e) = refl
