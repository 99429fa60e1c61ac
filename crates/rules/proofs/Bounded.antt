-- The propensities of a net that passed its tests: each is +0, or between 2 ^ -164 and 2 ^ 948, and the second exactly where the transition is enabled and has
-- no delay. So their total is +0 or between 2 ^ -164 and 2 ^ 1012: nothing overflows and nothing is lost at the lower end. Assumes nothing.
use Prim.Native.Nat.{ℕ, zero, suc, ◌+◌, ◌-◌, ◌*◌, ◌^◌, ◌≤◌, ◌<◌}
use mathlib.Core.Path.{◌≡◌, refl, sym, ap, ◌∙◌, subst}
use mathlib.Core.Bool.{Bool, true, false, ◌&&◌, ◌||◌}
use mathlib.Core.Logic.{◌⊎◌, inl, inr}
use mathlib.Core.List.{List, [], ◌∷◌, map}
use mathlib.Core.Option.{Option, none, some}
use native.Mathlib.Omega.{arith}
use lib.Dec.{T, leb}
use lib.IntN.{pos}
use lib.ListN.{length, length-map}
use borrow.Author.Tests.{leb-true, lt-leb, le-ltb}
use lib.Ieee.{Float, nan, inf, fin, binary64, add, mul, of_bits, lt, le, eq}
use lib.Ieee.Positive.{num, den, positive, own_value, between, values_of_le}
use Rattle.net.specs.Net.{Take, Transition, Net, Marking, pick, zero64, one64, amount, held, timed, rate_of}
use Rattle.net.specs.Tests.{rate_fits, kinetic_total}
use Rattle.combinations.specs.Combinations.{product, whole_factor}
use Rattle.combinations.proofs.Product.{minus_pos}
use Rattle.rules.specs.Enabled.{enabled, inputs_hold, gates_open}
use Rattle.rules.specs.Propensity.{ways, factored, propensity, propensities, summed, total}
use Rattle.rules.specs.Jump.{chosen_from, chosen}
use Rattle.rules.specs.Gillespie.{NoneNegative, Tested, Accepted}
use Rattle.rules.proofs.Order.{never, both}
use Rattle.rules.proofs.Rounded.{Plus}
use Rattle.rules.proofs.Sums.{plus_above}
use Rattle.rules.proofs.Within.{Within, weaken, mul_within, div_within, whole_within, one_within, zero_times, zero_and_zero, add_within, zero_and, and_zero, positive_above}

-- ---- ways: of w up to 16 and m from w to 2 ^ 53

product_within : (m w : ℕ) → w ≤ m → m ≤ 2 ^ 53 → w ≤ 16 → Within (4 * w) (53 * w) (product (whole_factor (pos m)) w)
product_within m zero h k l = one_within
product_within m (suc i) h k l =
    weaken (4 * i + 0 + 4) (4 * suc i) (53 * i + 53 + 0) (53 * suc i) _ (omega arith) (omega arith)
    (div_within (4 * i + 0) 0 (53 * i + 53) 4 _ _ (omega arith) (omega arith)
    (mul_within (4 * i) 0 (53 * i) 53 _ _ (omega arith) (omega arith) (product_within m i (omega arith) k (omega arith))
    (rw (← minus_pos m i (omega arith)) (whole_within (m - i) 53 (omega arith) (omega arith) (omega arith))))
    (whole_within (i + 1) 4 (omega arith) (omega arith) (omega arith)))

ways_within : (m w : ℕ) → 0 < w → w ≤ m → m ≤ 2 ^ 53 → w ≤ 16 → Within (4 * w) (53 * w) (ways m w)
ways_within m w z h k l =
    rw (lt-leb w 0 z, le-ltb m w h, le-ltb 16 w l, le-ltb (2 ^ 53) m k) (product_within m w h k l)

-- ---- a propensity

amount_pos : (w : ℕ) → 0 < amount w
amount_pos zero = omega arith
amount_pos (suc w) = omega arith

-- a is the rate times the ways of inputs of u in all; one more input
turn_within : (a : Float) (u w c : ℕ) → 0 < w → w ≤ c → c ≤ 2 ^ 53 → u + w ≤ 16 → Within (100 + 4 * u) (100 + 53 * u) a
    → Within (100 + 4 * (u + w)) (100 + 53 * (u + w)) (mul binary64 a (ways c w))
turn_within a u w c z h k l v =
    weaken (100 + 4 * u + 4 * w) (100 + 4 * (u + w)) (100 + 53 * u + 53 * w) (100 + 53 * (u + w)) _ (omega arith) (omega arith)
    (mul_within (100 + 4 * u) (4 * w) (100 + 53 * u) (53 * w) a (ways c w) (omega arith) (omega arith) v (ways_within c w z h k (omega arith)))

zero_turn : (w c : ℕ) → 0 < w → w ≤ c → c ≤ 2 ^ 53 → w ≤ 16 → mul binary64 zero64 (ways c w) ≡ zero64
zero_turn w c z h k l = zero_times (ways c w) (ways_within c w z h k l).above

module _ (m : Marking) (small : (p : ℕ) → held m p ≤ 2 ^ 53) where
  covered : (k : Take) (ks : List Take) → inputs_hold m (k ∷ ks) ≡ true → (amount k.weight ≤ held m k.place) × (inputs_hold m ks ≡ true)
  covered k ks e =
      let w = both (leb (amount k.weight) (held m k.place)) (inputs_hold m ks) e in
      (leb-true _ _ w.0, w.1)

  factored_within : (ks : List Take) (a : Float) (u : ℕ) → u + kinetic_total ks ≤ 16 → inputs_hold m ks ≡ true → Within (100 + 4 * u) (100 + 53 * u) a
      → Within 164 948 (factored m a ks)
  factored_within [] a u h e v = weaken (100 + 4 * u) 164 (100 + 53 * u) 948 a (omega arith) (omega arith) v
  factored_within (k ∷ ks) a u h e v =
      go k.kinetic h
      (λ a' u' h' v'. factored_within ks a' u' h' (covered k ks e).1 v')
    where
      go : (c : Bool) → u + (pick c (amount k.weight) 0 + kinetic_total ks) ≤ 16
          → ((a' : Float) (u' : ℕ) → u' + kinetic_total ks ≤ 16 → Within (100 + 4 * u') (100 + 53 * u') a' → Within 164 948 (factored m a' ks))
          → Within 164 948 (factored m (pick c (mul binary64 a (ways (held m k.place) (amount k.weight))) a) ks)
      go true h ih =
          ih _ (u + amount k.weight) (omega arith)
          (turn_within a u (amount k.weight) (held m k.place) (amount_pos k.weight) (covered k ks e).0 (small k.place) (omega arith) v)
      go false h ih = ih a u (omega arith) v

  factored_zero : (ks : List Take) → kinetic_total ks ≤ 16 → inputs_hold m ks ≡ true → factored m zero64 ks ≡ zero64
  factored_zero [] h e = refl
  factored_zero (k ∷ ks) h e = go k.kinetic h (λ h'. factored_zero ks h' (covered k ks e).1)
    where
      go : (c : Bool) → pick c (amount k.weight) 0 + kinetic_total ks ≤ 16 → (kinetic_total ks ≤ 16 → factored m zero64 ks ≡ zero64)
          → factored m (pick c (mul binary64 zero64 (ways (held m k.place) (amount k.weight))) zero64) ks ≡ zero64
      go true h ih =
          ap (λ (a : Float). factored m a ks) (zero_turn (amount k.weight) (held m k.place) (amount_pos k.weight) (covered k ks e).0 (small k.place) (omega arith))
          ∙ ih (omega arith)
      go false h ih = ih (omega arith)

-- ---- rates

told : {b : Bool} → b ≡ true → T b
told e = subst T (sym e) tt

-- "Rate 0 or 2^-100..2^100"
rate_in : (x : Float) → le (of_bits binary64 0x39B0_0000_0000_0000) x ≡ true → le x (of_bits binary64 0x4630_0000_0000_0000) ≡ true → Within 100 100 x
unfolding of_bits
rate_in x p q =
    let lo = of_bits binary64 0x39B0_0000_0000_0000 in
    let hi = of_bits binary64 0x4630_0000_0000_0000 in
    let w : T (positive x) = between lo x hi tt tt (told p) (told q) in
    record {
      above = w;
      least = omega (arith, values_of_le lo x 1 (2 ^ 100) (num x) (den x) tt w (refl, refl) (own_value x w) (told p));
      most = omega (arith, values_of_le x hi (num x) (den x) (2 ^ 100) 1 w tt (own_value x w) (refl, refl) (told q));
    }

untimed_rate : (t : Transition) → timed t ≡ false → rate_fits t.rate ≡ true → Within 100 100 (rate_of t)
untimed_rate t u f = rw u (go (eq t.rate zero64) refl f)
  where
    go : (c : Bool) → eq t.rate zero64 ≡ c
        → c || (le (of_bits binary64 0x39B0_0000_0000_0000) t.rate && le t.rate (of_bits binary64 0x4630_0000_0000_0000)) ≡ true
        → Within 100 100 (pick c one64 t.rate)
    go true e f = weaken 0 100 0 100 one64 (omega arith) (omega arith) one_within
    go false e f =
        let w = both (le (of_bits binary64 0x39B0_0000_0000_0000) t.rate) (le t.rate (of_bits binary64 0x4630_0000_0000_0000)) f in
        rate_in t.rate w.0 w.1

-- ---- a propensity

-- +0, or from 2 ^ -164 to 2 ^ 948
pub data Sized : Float → Type 0 where
  none_at_all : Sized zero64
  some_size : {x : Float} → Within 164 948 x → Sized x

module _ (n : Net) (m : Marking) (small : (p : ℕ) → held m p ≤ 2 ^ 53) (t : Transition) (f : rate_fits t.rate ≡ true) (k : kinetic_total t.takes ≤ 16) where
  -- "rate times combinations over kinetic inputs" of what can race
  ready_within : enabled n m t ≡ true → timed t ≡ false → Within 164 948 (propensity n m t)
  ready_within e u =
      rw e (factored_within m small t.takes (rate_of t) 0 (omega arith) (both (inputs_hold m t.takes) (gates_open n m t) e).0 (untimed_rate t u f))

  timed_zero : timed t ≡ true → propensity n m t ≡ zero64
  timed_zero u = go (enabled n m t) refl
    where
      go : (c : Bool) → enabled n m t ≡ c → pick c (factored m (rate_of t) t.takes) zero64 ≡ zero64
      go false e = refl
      go true e = rw u (factored_zero m small t.takes k (both (inputs_hold m t.takes) (gates_open n m t) e).0)

  not_ready_zero : enabled n m t ≡ false → propensity n m t ≡ zero64
  not_ready_zero e = rw e

  propensity_sized : Sized (propensity n m t)
  propensity_sized = go (enabled n m t) refl (timed t) refl
    where
      zeroed : propensity n m t ≡ zero64 → Sized (propensity n m t)
      zeroed e = rw e none_at_all

      go : (c : Bool) → enabled n m t ≡ c → (d : Bool) → timed t ≡ d → Sized (propensity n m t)
      go true e false u = some_size (ready_within e u)
      go true e true u = zeroed (timed_zero u)
      go false e d u = zeroed (not_ready_zero e)

-- ---- their sum

-- the sum of k of them
pub data SumOf (k : ℕ) : Float → Type 0 where
  none_yet : SumOf k zero64
  some_sum : {x : Float} → Within 164 (948 + k) x → SumOf k x

still_within : (k : ℕ) (s x : Float) → k < 64 → Within 164 (948 + k) s → Sized x → Within 164 (948 + suc k) (add binary64 s x)
still_within k s x h w none_at_all =
    weaken 164 164 (948 + k) (948 + suc k) _ (omega arith) (omega arith) (and_zero 164 (948 + k) s (omega arith) (omega arith) w)
still_within k s x h w (some_size v) =
    weaken 164 164 (suc (948 + k)) (948 + suc k) _ (omega arith) (omega arith)
    (add_within 164 (948 + k) s x (omega arith) (omega arith) w (weaken 164 164 948 (948 + k) x (omega arith) (omega arith) v))

now_within : (k : ℕ) (s x : Float) → k < 64 → SumOf k s → Within 164 948 x → Within 164 (948 + suc k) (add binary64 s x)
now_within k s x h none_yet v = weaken 164 164 948 (948 + suc k) _ (omega arith) (omega arith) (zero_and 164 948 x (omega arith) (omega arith) v)
now_within k s x h (some_sum w) v = still_within k s x h w (some_size v)

one_more : (k : ℕ) (s x : Float) → k < 64 → SumOf k s → Sized x → SumOf (suc k) (add binary64 s x)
one_more k s x h none_yet none_at_all = rw zero_and_zero none_yet
one_more k s x h (some_sum w) none_at_all = some_sum (still_within k s x h w none_at_all)
one_more k s x h v (some_size w) = some_sum (now_within k s x h v w)

SizedAll : List Float → Type 0
SizedAll [] = Unit
SizedAll (x ∷ xs) = Sized x × SizedAll xs

all_sized : (n : Net) (m : Marking) → ((p : ℕ) → held m p ≤ 2 ^ 53) → (ts : List Transition) → Tested ts → SizedAll (map (propensity n m) ts)
unfolding SizedAll
all_sized n m small [] h = tt
all_sized n m small (t ∷ ts) h = (propensity_sized n m small t h.0 h.1, all_sized n m small ts h.2)

summed_sized : (xs : List Float) (s : Float) (k : ℕ) → k + length xs ≤ 64 → SumOf k s → SizedAll xs → SumOf 64 (summed s xs)
unfolding SizedAll
summed_sized [] s k h v w = top v
  where
    top : {x : Float} → SumOf k x → SumOf 64 x
    top none_yet = none_yet
    top (some_sum {x = x} u) = some_sum (weaken 164 164 (948 + k) 1012 x (omega arith) (omega arith) u)
summed_sized (x ∷ xs) s k h v w = summed_sized xs (add binary64 s x) (suc k) (omega arith) (one_more k s x (omega arith) v w.0) w.1

-- once above zero, always
summed_within : (xs : List Float) (s : Float) (k : ℕ) → k + length xs ≤ 64 → Within 164 (948 + k) s → SizedAll xs → Within 164 1012 (summed s xs)
unfolding SizedAll
summed_within [] s k h v w = weaken 164 164 (948 + k) 1012 s (omega arith) (omega arith) v
summed_within (x ∷ xs) s k h v w = summed_within xs (add binary64 s x) (suc k) (omega arith) (still_within k s x (omega arith) v w.0) w.1

zero_not_above : lt zero64 zero64 ≡ false
unfolding lt of_bits
zero_not_above = refl

-- above zero it is no zero
sum_within : {x : Float} → SumOf 64 x → lt zero64 x ≡ true → Within 164 1012 x
sum_within none_yet p = never (sym zero_not_above ∙ p)
sum_within (some_sum u) p = u

zero_itself : le zero64 zero64 ≡ true
unfolding le lt eq of_bits
zero_itself = refl

positive_plus : (x : Float) → T (positive x) → Plus x
positive_plus nan p = absurd p
positive_plus (inf s) p = absurd p
positive_plus (fin true m e) p = absurd p
positive_plus (fin false m e) p = refl

sized_above : {x : Float} → Sized x → le zero64 x ≡ true
sized_above none_at_all = zero_itself
sized_above (some_size {x = x} u) = plus_above x (positive_plus x u.above)

none_negative : (xs : List Float) → SizedAll xs → NoneNegative xs
unfolding SizedAll
none_negative [] h = tt
none_negative (x ∷ xs) h = (sized_above h.0, none_negative xs h.1)

-- where a transition is chosen, the total is above zero
chosen_within : (r s t : Float) (j k : ℕ) (last : Option ℕ) (xs : List Float) (i : ℕ) → k + length xs ≤ 64 → SumOf k t → SizedAll xs
    → chosen_from r s j last xs ≡ some i → (last ≡ some i) ⊎ Within 164 1012 (summed t xs)
unfolding SizedAll
chosen_within r s t j k last [] i h v w p = inl p
chosen_within r s t j k last (x ∷ xs) i h v w p =
    go w.0 p (λ q. chosen_within r (add binary64 s x) (add binary64 t x) (suc j) (suc k) last xs i (omega arith) (one_more k t x (omega arith) v w.0) w.1 q)
  where
    go : {y : Float} → Sized y
        → pick (lt zero64 y && le r (add binary64 s y)) (some j) (chosen_from r (add binary64 s y) (suc j) (pick (lt zero64 y) (some j) last) xs) ≡ some i
        → (chosen_from r (add binary64 s y) (suc j) last xs ≡ some i → (last ≡ some i) ⊎ Within 164 1012 (summed (add binary64 t y) xs))
        → (last ≡ some i) ⊎ Within 164 1012 (summed (add binary64 t y) xs)
    go none_at_all p ih = ih (rw zero_not_above at p)
    go (some_size {x = y} u) p ih = inr (summed_within xs (add binary64 t y) (suc k) (omega arith) (now_within k t y (omega arith) v u) w.1)

module _ (n : Net) (a : Accepted n) (m : Marking) (small : (p : ℕ) → held m p ≤ 2 ^ 53) where
  sizes : SizedAll (propensities n m)
  sizes = all_sized n m small n.transitions a.tested

  pub propensities_none_negative : NoneNegative (propensities n m)
  propensities_none_negative = none_negative (propensities n m) sizes

  pub total_within : lt zero64 (total (propensities n m)) ≡ true → Within 164 1012 (total (propensities n m))
  total_within p =
      sum_within (summed_sized (propensities n m) zero64 0 (omega (arith, length-map n.transitions (propensity n m), a.few)) none_yet sizes) p

  pub chosen_above : (r : Float) (j : ℕ) → chosen r (propensities n m) ≡ some j → lt zero64 (total (propensities n m)) ≡ true
  chosen_above r j p =
      go (chosen_within r zero64 zero64 0 0 none (propensities n m) j (omega (arith, length-map n.transitions (propensity n m), a.few)) none_yet sizes p)
    where
      go : (none ≡ some j) ⊎ Within 164 1012 (total (propensities n m)) → lt zero64 (total (propensities n m)) ≡ true
      go (inl e) = absurd (let z : ◌≡◌ {A = ℕ} 0 1 = cc in omega arith)
      go (inr u) = positive_above (total (propensities n m)) u.above
