-- A whole number is a float just where its odd part has no more than 53 binary digits. m * (m - 1) and its half, the pairs of m, have one odd part, so that
-- the float of the pairs is exact just where that odd part is so short. Assumes nothing.
use mathlib.Core.Path.{◌≡◌, refl, sym, ap, ◌∙◌, subst}
use mathlib.Core.Bool.{Bool, false, ◌&&◌}
use Prim.Native.Nat.{ℕ, zero, suc, ◌+◌, ◌-◌, ◌*◌, ◌/◌, ◌%◌, ◌^◌, ◌≤◌, ◌<◌}
use native.Mathlib.Nat.{mul-one, mul_assoc, mul-pos, mul-le-mul, lt_of_lt_of_le, lt_of_le_of_lt, eq_of_mul-eq-mul_right, pow-suc}
use native.Mathlib.Omega.{arith}
use lib.Dec.{T, eqb, ltb, leb, eqb→eq, ltb→lt, lt→ltb, lit<}
use lib.IntN.{ℤ, pos, negsuc}
use lib.Pow.{pow-add, pow_pos, pow_mono, shl_lt}
use lib.Ieee.{Float, nan, inf, fin, binary64, up, down, mul, fits}
use lib.Ieee.Bits.{is_true}
use lib.Ieee.Exact.{HasValue, round_exact}
use lib.Ieee.Fits.{down_pos, and_l, and_r, div-fits}
use Rattle.floats.specs.{float}
use Rattle.combinations.specs.Binomial.{binomial, exact}
use Rattle.combinations.specs.Combinations.{product, whole_factor}
use Rattle.combinations.proofs.Binomial.{next_binomial, binomial_one, binomial_pos}
use Rattle.combinations.proofs.Decided.{odd_pow}
use Rattle.combinations.proofs.Parts.{Stripped}
use Rattle.combinations.proofs.Steps.{Kept, kept_value, x_value}
use Rattle.combinations.proofs.Value.{same_test, whole_value, value_whole}

-- ---- with such an odd part it is a float

pub short_kept : (o t : ℕ) → o < 2 ^ 53 → t ≤ 64 → Kept (o * 2 ^ t)
short_kept o t s l =
    round_exact binary64 false (o * 2 ^ t) 1 o (t + 1074) (omega arith) s (lt_of_lt_of_le (shl_lt 53 (t + 1074) s) (pow_mono {i = 53 + (t + 1074)} {j = 2098} (omega arith)))
    (mul_assoc o (2 ^ t) (2 ^ 1074) ∙ ap (λ (z : ℕ). o * z) (sym (pow-add 2 t 1074)) ∙ sym (mul-one (o * 2 ^ (t + 1074))))

-- ---- with a longer one it is none

-- what `fits` says of an m above 0
fits_odd : (s : Bool) (m : ℕ) (e : ℤ) → T (fits binary64 (fin s (suc m) e)) → (suc m % 2 ≡ 1) × (suc m < 2 ^ 53)
unfolding fits
fits_odd s m e t =
    let a = eqb (suc m % 2) 1 in
    let b = ltb (suc m) (2 ^ 53) in
    let c = leb (down e) (2 ^ 1074) in
    let u = and_l (a && b) c (and_l (a && b && c) (ltb (suc m * up e) (2 ^ 1024 * down e)) t) in
    (eqb→eq (suc m % 2) 1 (and_l a b u), ltb→lt (suc m) (2 ^ 53) (and_r a b u))

-- numbers that are the same but for powers of two have the same odd part
same_odd : (m o i a j : ℕ) → m % 2 ≡ 1 → o % 2 ≡ 1 → m * 2 ^ i * 1 ≡ o * 2 ^ a * 2 ^ j → m ≡ o
same_odd m o i a j p q e =
    (odd_pow m o i (a + j) p q (sym (mul-one (m * 2 ^ i)) ∙ e ∙ mul_assoc o (2 ^ a) (2 ^ j) ∙ ap (λ (z : ℕ). o * z) (sym (pow-add 2 a j)))).0

pub held_short : (x : Float) (o a : ℕ) → o % 2 ≡ 1 → T (fits binary64 x) → HasValue x false (o * 2 ^ a) 1 → o < 2 ^ 53
held_short nan o a q f v = absurd v
held_short (inf s) o a q f v = absurd v
held_short (fin s zero e) o a q f v =
    let g : 0 < o * 2 ^ a * down e = mul-pos (mul-pos (omega arith) (pow_pos a)) (down_pos e) in
    absurd (omega (arith, v.1))
held_short (fin s (suc m) (pos k)) o a q f v =
    let g = fits_odd s m (pos k) f in
    subst (λ (z : ℕ). z < 2 ^ 53) (same_odd (suc m) o k a 0 g.0 q v.1) g.1
held_short (fin s (suc m) (negsuc k)) o a q f v =
    let g = fits_odd s m (negsuc k) f in
    subst (λ (z : ℕ). z < 2 ^ 53) (same_odd (suc m) o 0 a (suc k) g.0 q v.1) g.1

-- ---- the pairs of m

-- the half of an even number has the same odd part
halved : (c o t : ℕ) → o % 2 ≡ 1 → c * 2 ≡ o * 2 ^ t → (a : ℕ) × (t ≡ suc a) × (c ≡ o * 2 ^ a)
halved c o zero p e = absurd (omega arith)
halved c o (suc a) p e = (a, refl, eq_of_mul-eq-mul_right 2 (omega arith) c (o * 2 ^ a) (e ∙ ap (λ (z : ℕ). o * z) (pow-suc 2 a) ∙ sym (mul_assoc o (2 ^ a) 2)))

pub pairs_fit : (m : ℕ) → m < 2 ^ 32 → m * (m - 1) < 2 ^ 64
pairs_fit m h =
    let a : m ≤ 4294967295 = omega arith in
    let b : m - 1 ≤ 4294967295 = omega arith in
    lt_of_le_of_lt (mul-le-mul a b) (lit< tt)

-- t is how often 2 divides m * (m - 1), and o what is left
module _ (m : ℕ) (two : 2 ≤ m) (l : m < 2 ^ 32) (t : ℕ) (s : Stripped 64 (m * (m - 1)) t) where
  abbrev P : ℕ
  P = m * (m - 1)

  abbrev C : ℕ
  C = binomial m 2

  abbrev o : ℕ
  o = P / 2 ^ t

  abbrev x : Float
  x = product (whole_factor (pos m)) 2

  step : binomial m 1 * (m - 1) ≡ P
  step = ap (λ (z : ℕ). z * (m - 1)) (binomial_one m)

  half : (a : ℕ) × (t ≡ suc a) × (C ≡ o * 2 ^ a)
  half = halved C o t s.odd (sym (next_binomial m 1) ∙ step ∙ sym s.whole)

  holds : o < 2 ^ 53 → HasValue x false C 1
  holds k =
      let f = s.few in
      let e = half.1 in
      kept_value m 1 (product (whole_factor (pos m)) 1) (omega arith) (omega arith) (omega arith)
      (subst Kept (s.whole ∙ sym step) (short_kept o t k (omega arith)))
      (subst Kept (sym half.2) (short_kept o half.0 k (omega arith)))
      (x_value m 1 (omega arith) (omega arith) (omega arith))

  held : HasValue x false C 1 → o < 2 ^ 53
  held v =
      held_short x o half.0 s.odd (div-fits binary64 (mul binary64 (product (whole_factor (pos m)) 1) (whole_factor (pos m) 1)) (float 2))
      (subst (λ (z : ℕ). HasValue x false z 1) half.2 v)

  pub pairs_exact : ltb o (2 ^ 53) ≡ exact x m 2
  pairs_exact =
      same_test (ltb o (2 ^ 53)) (exact x m 2)
      (λ k. subst T (sym (value_whole x C (holds (ltb→lt o (2 ^ 53) k)))) tt)
      (λ k. lt→ltb o (2 ^ 53) (held (whole_value x C (binomial_pos m 2 two) (is_true (exact x m 2) k))))
