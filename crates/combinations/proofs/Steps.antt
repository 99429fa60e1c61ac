-- Where no product of a step passes 2 ^ 53, each step is exact, and the product of i factors is the binomial coefficient. Assumes nothing.
use mathlib.Core.Path.{◌≡◌, refl, sym, ap, ◌∙◌, subst}
use mathlib.Core.Bool.{Bool, true, false, not, ◌||◌}
use Prim.Native.Nat.{ℕ, zero, suc, ◌+◌, ◌-◌, ◌*◌, ◌^◌, ◌≤◌, ◌<◌}
use native.Mathlib.Nat.{le_trans, mul-pos, mul-one, one-mul, mul_assoc, mul_right_comm, mul-le-mul_left, mul-le-mul_right}
use native.Mathlib.Omega.{arith}
use lib.Dec.{T, eqb, leb, leb→le, eqb→eq, not_T}
use lib.IntN.{ℤ, pos}
use lib.ListN.{get_or}
use lib.Ieee.{Float, nan, inf, fin, binary64, unlike, up, down, round, of_int, of_bits, mul, div, fits}
use lib.Ieee.Back.{round_whole, whole_unique}
use lib.Ieee.Bits.{cond_no, of_bits-fits}
use lib.Ieee.Exact.{HasValue}
use lib.Ieee.Fits.{down_pos, div-fits, of_int-fits}
use lib.Ieee.Positive.{mul_at, positive_of_value, first_pos}
use lib.Ieee.Scale.{round_same}
use Rattle.combinations.specs.Binomial.{binomial, exact}
use Rattle.floats.specs.{float}
use Rattle.combinations.specs.Combinations.{one64, with_factor, product, whole_factor}
use Rattle.combinations.specs.Theorems.{unrounded}
use Rattle.combinations.proofs.Binomial.{next_binomial, binomial_one, binomial_pos, step_mono}
use Rattle.combinations.proofs.Product.{minus_pos}
use Rattle.combinations.proofs.Tables.{below, at_below, every, at_entry}
use Rattle.combinations.proofs.Value.{value_whole}

-- ---- the table

small : ℕ → ℕ → Bool
small m i = leb (binomial m i * (m - i)) (2 ^ 53)

in_table : ℕ → ℕ → Bool
unfolding small
in_table w m = below (small m) w

checked : T (every in_table 0 unrounded)
unfolding in_table
checked = tt

-- and no larger m will do, where there is a step
no_larger : T (every (λ w m. eqb w 0 || not (in_table w (m + 1))) 0 unrounded)
unfolding in_table
no_larger = tt

-- no product of a step passes 2 ^ 53
pub small_step : (m w : ℕ) → w ≤ 16 → m ≤ get_or unrounded w 0 → (i : ℕ) → i < w → binomial m i * (m - i) ≤ 2 ^ 53
unfolding in_table
small_step m w h l i k =
    let n = get_or unrounded w 0 in
    le_trans (step_mono m n i l) (leb→le (binomial n i * (n - i)) (2 ^ 53) (at_below (small n) w (at_entry in_table unrounded checked w (omega arith)) i k))

-- ---- one step

one_value : HasValue one64 false 1 1
unfolding of_bits
one_value = (refl, refl)

float_value : (n : ℕ) → n ≤ 2 ^ 53 → HasValue (float n) false n 1
unfolding of_int
float_value n h = round_whole binary64 false n h

-- a * b over b
div_whole : (x y : Float) (a b : ℕ) → 0 < b → HasValue x false (a * b) 1 → HasValue y false b 1 → div binary64 x y ≡ round binary64 false a 1
unfolding div
div_whole nan y a b p h k = absurd h
div_whole (inf s) y a b p h k = absurd h
div_whole (fin s m e) nan a b p h k = absurd k
div_whole (fin s m e) (inf t) a b p h k = absurd k
div_whole (fin s m e) (fin t n d) a b p h k =
    let N = n * up d in
    let x : m * up e ≡ a * b * down e = sym (mul-one (m * up e)) ∙ h.1 in
    let y : N ≡ b * down d = sym (mul-one N) ∙ k.1 in
    let q : 0 < N = subst (λ (z : ℕ). 0 < z) (sym y) (mul-pos p (down_pos d)) in
    cond_no (eqb n 0) _ _ (not_zero n (first_pos n (up d) q))
    ∙ (λ i. round binary64 (unlike (h.0 i) (k.0 i)) (m * up e * down d) (N * down e))
    ∙ round_same binary64 false (m * up e * down d) (N * down e) a 1 (mul-pos q (down_pos e)) (omega arith)
    (mul-one (m * up e * down d)
    ∙ ap (λ (z : ℕ). z * down d) x
    ∙ mul_assoc (a * b) (down e) (down d)
    ∙ mul_assoc a b (down e * down d)
    ∙ ap (λ (z : ℕ). a * z) (sym (mul_assoc b (down e) (down d)) ∙ mul_right_comm b (down e) (down d) ∙ ap (λ (z : ℕ). z * down e) (sym y)))
  where
    not_zero : (n : ℕ) → 0 < n → T (not (eqb n 0))
    not_zero n l = not_T (eqb n 0) (λ t. let z : n ≡ 0 = eqb→eq n 0 t in omega arith)

-- the whole number n is a float
abbrev pub Kept : ℕ → Type 0
Kept n = HasValue (round binary64 false n 1) false n 1

-- a step is exact where factor, divisor, product and quotient are floats
pub kept_value : (m i : ℕ) (r : Float) → i < m → m - i ≤ 2 ^ 53 → i + 1 ≤ 2 ^ 53 → Kept (binomial m i * (m - i)) → Kept (binomial m (suc i))
    → HasValue r false (binomial m i) 1 → HasValue (with_factor r (whole_factor (pos m) i) i) false (binomial m (suc i)) 1
kept_value m i r h xs ys kp kq v =
    let c = binomial m i in
    let d = binomial m (suc i) in
    let x = float (m - i) in
    let xv : HasValue x false (m - i) 1 = float_value (m - i) xs in
    let y = float (i + 1) in
    let yv : HasValue y false (i + 1) 1 = float_value (i + 1) ys in
    let p : mul binary64 r x ≡ round binary64 false (c * (m - i)) 1 =
    mul_at binary64 r x c 1 (m - i) 1 (positive_of_value r c 1 v (binomial_pos m i (omega arith))) (positive_of_value x (m - i) 1 xv (omega arith)) (omega arith) (omega arith) v xv in
    let pv : HasValue (mul binary64 r x) false (d * (i + 1)) 1 =
    subst (λ (z : ℕ). HasValue (mul binary64 r x) false z 1) (next_binomial m i) (subst (λ (z : Float). HasValue z false (c * (m - i)) 1) (sym p) kp) in
    let q : div binary64 (mul binary64 r x) y ≡ round binary64 false d 1 = div_whole (mul binary64 r x) y d (i + 1) (omega arith) pv yv in
    let w : HasValue (with_factor r x i) false d 1 = subst (λ (z : Float). HasValue z false d 1) (sym q) kq in
    subst (λ (z : ℤ). HasValue (with_factor r (of_int binary64 z) i) false d 1) (minus_pos m i (omega arith)) w

-- as they are where the product does not pass 2 ^ 53
module _ (m i : ℕ) (h : i < m) (small : binomial m i * (m - i) ≤ 2 ^ 53) where
  next_small : binomial m (suc i) * (i + 1) ≤ 2 ^ 53
  next_small = subst (λ (z : ℕ). z ≤ 2 ^ 53) (next_binomial m i) small

  -- a product is no smaller than a factor beside one above 0
  second : (a b c : ℕ) → 0 < a → a * b ≤ c → b ≤ c
  second a b c p l = le_trans (subst (λ (z : ℕ). z ≤ a * b) (one-mul b) (mul-le-mul_right b p)) l

  first : (a b c : ℕ) → 0 < b → a * b ≤ c → a ≤ c
  first a b c p l = le_trans (subst (λ (z : ℕ). z ≤ a * b) (mul-one a) (mul-le-mul_left a p)) l

  next_value : (r : Float) → HasValue r false (binomial m i) 1 → HasValue (with_factor r (whole_factor (pos m) i) i) false (binomial m (suc i)) 1
  next_value r v =
      let c = binomial m i in
      let d = binomial m (suc i) in
      kept_value m i r h (second c (m - i) (2 ^ 53) (binomial_pos m i (omega arith)) small) (second d (i + 1) (2 ^ 53) (binomial_pos m (suc i) h) next_small)
      (round_whole binary64 false (c * (m - i)) small) (round_whole binary64 false d (first d (i + 1) (2 ^ 53) (omega arith) next_small)) v

-- ---- every step

product_value : (m n : ℕ) → n ≤ m → ((i : ℕ) → i < n → binomial m i * (m - i) ≤ 2 ^ 53) → HasValue (product (whole_factor (pos m)) n) false (binomial m n) 1
product_value m zero h s = one_value
product_value m (suc i) h s =
    next_value m i h (s i (omega arith)) (product (whole_factor (pos m)) i) (product_value m i (omega arith) (λ k l. s k (omega arith)))

-- so the product is the binomial coefficient, as a float and exactly
module _ (m w : ℕ) (h : w ≤ 16) (k : w ≤ m) (l : m ≤ get_or unrounded w 0) where
  abbrev x : Float
  x = product (whole_factor (pos m)) w

  pub x_value : HasValue x false (binomial m w) 1
  x_value = product_value m w k (small_step m w h l)

  pub product_exact : exact x m w ≡ true
  product_exact = value_whole x (binomial m w) x_value

  -- the product has no more than 2 ^ 53 in size, up to where each whole number is a float
  in_range : (n : ℕ) → n ≡ w → binomial m n ≤ 2 ^ 53
  in_range zero e = omega arith
  in_range (suc i) e =
      let c = binomial m (suc i) in
      le_trans (subst (λ (z : ℕ). z ≤ c * (i + 1)) (mul-one c) (mul-le-mul_left c (omega arith)))
      (subst (λ (z : ℕ). z ≤ 2 ^ 53) (next_binomial m i) (small_step m w h l i (omega arith)))

  pub product_is : x ≡ float (binomial m w)
  product_is =
      whole_unique binary64 x (float (binomial m w)) false (binomial m w) (product_fits w) (of_int-fits binary64 (pos (binomial m w))) x_value (float_value (binomial m w) (in_range w refl))
    where
      product_fits : (n : ℕ) → T (fits binary64 (product (whole_factor (pos m)) n))
      product_fits zero = of_bits-fits binary64 0x3FF0_0000_0000_0000
      product_fits (suc i) = div-fits binary64 (mul binary64 (product (whole_factor (pos m)) i) (whole_factor (pos m) i)) (float (i + 1))

-- the first factor over 1 is m itself
pub first_factor : (m : ℕ) → 1 ≤ m → m ≤ 2 ^ 53 → float m ≡ product (whole_factor (pos m)) 1
first_factor m h l = sym (product_is m 1 (omega arith) h l ∙ ap float (binomial_one m))
