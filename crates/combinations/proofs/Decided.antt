-- The decision in whole numbers. x is M * 2 ^ k units of 2 ^ -1074, and the binomial coefficient is C: both are multiplied by w!, which leaves no
-- division, and taken apart into an odd number and a power of two. That can be done in one way only, so both parts are the same or the numbers differ.
-- The odd part of x * w! is below 2 ^ 100, so that the words tell it from any other. Assumes nothing.
use mathlib.Core.Path.{◌≡◌, refl, sym, ap, ◌∙◌, subst}
use mathlib.Core.Logic.{inl, inr}
use mathlib.Core.Bool.{false}
use Prim.Native.Nat.{ℕ, zero, suc, ◌+◌, ◌-◌, ◌*◌, ◌/◌, ◌%◌, ◌^◌, ◌≤◌, ◌<◌}
use native.Mathlib.Nat.{mul-one, mul_assoc, mul_left_comm, mul_right_comm, mul-le-mul, mul-le-mul_left, le_trans, le_of_eq, lt_of_le_of_lt, eq_of_mul-eq-mul_right, pow-suc, pow-succ'}
use native.Mathlib.Omega.{arith}
use lib.Dec.{leb, eqb, leb→le, eqb→eq, lit<}
use lib.Pow.{pow-add, pow_pos}
use lib.Ieee.{binary64, of_bits}
use lib.Ieee.Fits.{eq→eqb}
use Rattle.combinations.specs.Binomial.{falling, factorial, binomial, exact}
use Rattle.combinations.specs.Parts.{Agree, Holds}
use Rattle.combinations.proofs.Binomial.{factorial_pos, no_rest}
use Rattle.combinations.proofs.Patterns.{normal_whole}
use Rattle.combinations.proofs.Tables.{at_below}
use Rattle.combinations.proofs.Value.{same_test, no_test}

-- ---- an odd number times a power of two, in one way only

even_odd : (m t : ℕ) → m % 2 ≡ 1 → m ≡ 2 * t → ⊥
even_odd m t o h = omega arith

pub odd_pow : (m n a b : ℕ) → m % 2 ≡ 1 → n % 2 ≡ 1 → m * 2 ^ a ≡ n * 2 ^ b → (m ≡ n) × (a ≡ b)
odd_pow m n zero zero o p h = (sym (mul-one m) ∙ h ∙ mul-one n, refl)
odd_pow m n zero (suc b) o p h = absurd (even_odd m (n * 2 ^ b) o (sym (mul-one m) ∙ h ∙ ap (λ (x : ℕ). n * x) (pow-succ' 2 b) ∙ mul_left_comm n 2 (2 ^ b)))
odd_pow m n (suc a) zero o p h = absurd (even_odd n (m * 2 ^ a) p (sym (mul-one n) ∙ sym h ∙ ap (λ (x : ℕ). m * x) (pow-succ' 2 a) ∙ mul_left_comm m 2 (2 ^ a)))
odd_pow m n (suc a) (suc b) o p h =
    let r = odd_pow m n a b o p (eq_of_mul-eq-mul_right 2 (omega arith) (m * 2 ^ a) (n * 2 ^ b)
    (mul_assoc m (2 ^ a) 2 ∙ ap (λ (x : ℕ). m * x) (sym (pow-suc 2 a)) ∙ h ∙ ap (λ (x : ℕ). n * x) (pow-suc 2 b) ∙ sym (mul_assoc n (2 ^ b) 2))) in
    (r.0, ap suc r.1)

-- M * 2 ^ k times F, by the parts of M * F
scaled : (M F k o t : ℕ) → M * F ≡ o * 2 ^ t → M * 2 ^ k * F ≡ o * 2 ^ (t + k)
scaled M F k o t e = mul_right_comm M (2 ^ k) F ∙ ap (λ (x : ℕ). x * 2 ^ k) e ∙ mul_assoc o (2 ^ t) (2 ^ k) ∙ ap (λ (x : ℕ). o * x) (sym (pow-add 2 t k))

-- ---- the factorial

factorial_small : (w : ℕ) → w ≤ 16 → factorial w ≤ 2 ^ 45
factorial_small w h = leb→le (factorial w) (2 ^ 45) (at_below (λ k. leb (factorial k) (2 ^ 45)) 17 tt w (omega arith))

-- ---- the decision

-- the words of numbers that differ differ
pub apart : {h l h' l' : ℕ} → l < 2 ^ 64 → l' < 2 ^ 64 → h * 2 ^ 64 + l ≡ h' * 2 ^ 64 + l' → (h ≡ h') × (l ≡ l')
apart p q e = (omega arith, omega arith)

module _ (b m w : ℕ) (g : 2 ^ 52 ≤ b) (s : b < 2047 * 2 ^ 52) (few : w ≤ 16)
    {hl ll tl hr lr tr : ℕ} (x : Holds ((b % 2 ^ 52 + 2 ^ 52) * factorial w) hl ll tl) (y : Holds (falling m w) hr lr tr) where
  abbrev M : ℕ
  M = b % 2 ^ 52 + 2 ^ 52

  abbrev k : ℕ
  k = b / 2 ^ 52 - 1

  left : M * factorial w ≡ x.odd * 2 ^ tl
  left = x.product

  right : binomial m w * factorial w ≡ y.odd * 2 ^ tr
  right = no_rest m w ∙ y.product

  -- as exact values the two are equal if both parts are
  to_parts : M * 2 ^ k ≡ binomial m w * 2 ^ 1074 → (x.odd ≡ y.odd) × (tl + k ≡ tr + 1074)
  to_parts e =
      odd_pow x.odd y.odd (tl + k) (tr + 1074) x.is_odd y.is_odd
      (sym (scaled M (factorial w) k x.odd tl left) ∙ ap (λ (z : ℕ). z * factorial w) e ∙ scaled (binomial m w) (factorial w) 1074 y.odd tr right)

  of_parts : x.odd ≡ y.odd → tl + k ≡ tr + 1074 → M * 2 ^ k ≡ binomial m w * 2 ^ 1074
  of_parts e f =
      eq_of_mul-eq-mul_right (factorial w) (factorial_pos w) (M * 2 ^ k) (binomial m w * 2 ^ 1074)
      (scaled M (factorial w) k x.odd tl left ∙ (λ i. e i * 2 ^ f i) ∙ sym (scaled (binomial m w) (factorial w) 1074 y.odd tr right))

  short : x.odd < 2 ^ 100
  short =
      let n : M ≤ 2 ^ 53 = omega arith in
      lt_of_le_of_lt (le_trans (subst (λ (z : ℕ). z ≤ x.odd * 2 ^ tl) (mul-one x.odd) (mul-le-mul_left x.odd (pow_pos tl)))
      (le_trans (le_of_eq (sym left)) (mul-le-mul n (factorial_small w few))))
      (lit< tt)

  -- the words of x hold its odd part
  held : hl * 2 ^ 64 + ll ≡ x.odd
  held = go x.words
    where
      go : Agree (hl * 2 ^ 64 + ll) x.odd → hl * 2 ^ 64 + ll ≡ x.odd
      go (inl e) = e
      go (inr e) = absurd (omega (arith, short, e.1))

  -- so the odd parts are the same if the words are
  same_odd : hl * 2 ^ 64 + ll ≡ hr * 2 ^ 64 + lr → x.odd ≡ y.odd
  same_odd e = go y.words
    where
      go : Agree (hr * 2 ^ 64 + lr) y.odd → x.odd ≡ y.odd
      go (inl f) = sym held ∙ e ∙ f
      go (inr f) = absurd (omega (arith, short, f.0, held, e))

  same_words : x.odd ≡ y.odd → hl * 2 ^ 64 + ll ≡ hr * 2 ^ 64 + lr
  same_words e = go y.words
    where
      go : Agree (hr * 2 ^ 64 + lr) y.odd → hl * 2 ^ 64 + ll ≡ hr * 2 ^ 64 + lr
      go (inl f) = held ∙ e ∙ sym f
      go (inr f) = absurd (omega (arith, short, f.1, e))

  pub alike : hl ≡ hr → ll ≡ lr → eqb (tl + b / 2 ^ 52) (tr + 1075) ≡ exact (of_bits binary64 b) m w
  alike e f =
      let o = same_odd (λ i. e i * 2 ^ 64 + f i) in
      same_test (eqb (tl + b / 2 ^ 52) (tr + 1075)) (eqb (M * 2 ^ k) (binomial m w * 2 ^ 1074))
      (λ t. let q = eqb→eq (tl + b / 2 ^ 52) (tr + 1075) t in eq→eqb (of_parts o (omega arith)))
      (λ t. let q = (to_parts (eqb→eq (M * 2 ^ k) (binomial m w * 2 ^ 1074) t)).1 in eq→eqb {a = tl + b / 2 ^ 52} {b = tr + 1075} (omega arith))
      ∙ sym (normal_whole b (binomial m w) g s)

  pub unlike : (hl * 2 ^ 64 + ll ≡ hr * 2 ^ 64 + lr → ⊥) → false ≡ exact (of_bits binary64 b) m w
  unlike d =
      sym (normal_whole b (binomial m w) g s
      ∙ no_test (eqb (M * 2 ^ k) (binomial m w * 2 ^ 1074)) (λ t. d (same_words (to_parts (eqb→eq (M * 2 ^ k) (binomial m w * 2 ^ 1074) t)).0)))
