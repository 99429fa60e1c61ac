-- Which whole number above 0 a bit pattern stands for: a normal pattern is so many units of 2 ^ -1074; any other is none. Assumes nothing.
use mathlib.Core.Path.{◌≡◌, refl, sym, ap, ◌∙◌, subst}
use mathlib.Core.Bool.{Bool, true, false, not, cond}
use Prim.Native.Nat.{ℕ, zero, suc, ◌+◌, ◌-◌, ◌*◌, ◌/◌, ◌%◌, ◌^◌, ◌≤◌, ◌<◌}
use native.Mathlib.Nat.{mul-one, one-mul, le_trans, lt_of_lt_of_le, lt_irrefl, mul-le-mul_right}
use native.Mathlib.Omega.{arith}
use lib.Dec.{T, leb, eqb, ltb, eqb→eq, ltb→lt, nltb→le}
use lib.Pow.{pow_pos, pow_mono}
use borrow.Author.Tests.{ne_eqb, le-leb, lt-leb}
use lib.Ieee.{Float, nan, inf, fin, binary64, odd, of_fields, of_bits, is_nan, ne, eq}
use lib.Ieee.Compare.{differs_from_itself}
use lib.Ieee.Exact.{odd_sign}
use Rattle.combinations.specs.Binomial.{whole}
use Rattle.combinations.proofs.Value.{eq_whole, eq_negative, no_test}

-- ---- from fields

fields : (b : ℕ) {s : Bool} {x t : ℕ} → leb (2 ^ 63) b ≡ s → b % 2 ^ 63 / 2 ^ 52 ≡ x → b % 2 ^ 52 ≡ t → of_bits binary64 b ≡ of_fields binary64 s x t
unfolding of_bits
fields b e₁ e₂ e₃ = λ i. of_fields binary64 (e₁ i) (e₂ i) (e₃ i)

normal_fields : (s : Bool) (k t : ℕ) → k < 2046 → of_fields binary64 s (suc k) t ≡ odd 53 s (2 ^ 52 + t) k 1074
unfolding of_fields
normal_fields s k t h = rw (ne_eqb (suc k) 2047 (omega arith)) refl

small_fields : (s : Bool) (t : ℕ) → of_fields binary64 s 0 t ≡ odd 53 s t 0 1074
unfolding of_fields
small_fields s t = refl

top_fields : (s : Bool) (t n : ℕ) → eq (of_fields binary64 s 2047 t) (whole n) ≡ false
unfolding of_fields eq
top_fields s t n = go (eqb t 0)
  where
    go : (b : Bool) → eq (cond b (inf s) nan) (whole n) ≡ false
    go true = refl
    go false = refl

-- ---- a normal pattern

normal_bits : (k t : ℕ) → k < 2046 → t < 2 ^ 52 → of_bits binary64 ((k + 1) * 2 ^ 52 + t) ≡ odd 53 false (2 ^ 52 + t) k 1074
normal_bits k t h l =
    fields ((k + 1) * 2 ^ 52 + t) {x = suc k} (lt-leb (2 ^ 63) ((k + 1) * 2 ^ 52 + t) (omega arith)) (omega arith) (omega arith) ∙ normal_fields false k t h

pub normal_whole : (b n : ℕ) → 2 ^ 52 ≤ b → b < 2047 * 2 ^ 52
    → eq (of_bits binary64 b) (whole n) ≡ eqb ((b % 2 ^ 52 + 2 ^ 52) * 2 ^ (b / 2 ^ 52 - 1)) (n * 2 ^ 1074)
normal_whole b n g l =
    let k = b / 2 ^ 52 - 1 in
    let t = b % 2 ^ 52 in
    let e : b ≡ (k + 1) * 2 ^ 52 + t = omega arith in
    let v : of_bits binary64 b ≡ odd 53 false (2 ^ 52 + t) k 1074 = ap (of_bits binary64) e ∙ normal_bits k t (omega arith) (omega arith) in
    let c : 2 ^ 52 + t ≡ t + 2 ^ 52 = omega arith in
    eq_whole (of_bits binary64 b) ((2 ^ 52 + t) * 2 ^ k) (2 ^ 1074) n (pow_pos 1074) (rw v (odd_sign 53 false (2 ^ 52 + t) k 1074))
    ∙ ap (λ (z : ℕ). eqb (z * 2 ^ k) (n * 2 ^ 1074)) c

-- ---- any other pattern

pub small_none : (b n : ℕ) → b < 2 ^ 52 → 0 < n → eq (of_bits binary64 b) (whole n) ≡ false
small_none b n l p =
    let v : of_bits binary64 b ≡ odd 53 false b 0 1074 = fields b {x = 0} {t = b} (lt-leb (2 ^ 63) b (omega arith)) (omega arith) (omega arith) ∙ small_fields false b in
    eq_whole (of_bits binary64 b) (b * 2 ^ 0) (2 ^ 1074) n (pow_pos 1074) (rw v (odd_sign 53 false b 0 1074))
    ∙ no_test (eqb (b * 2 ^ 0) (n * 2 ^ 1074)) (λ t. less (eqb→eq (b * 2 ^ 0) (n * 2 ^ 1074) t))
  where
    less : b * 2 ^ 0 ≡ n * 2 ^ 1074 → ⊥
    less e =
        let q : 2 ^ 1074 ≤ n * 2 ^ 1074 = subst (λ (z : ℕ). z ≤ n * 2 ^ 1074) (one-mul (2 ^ 1074)) (mul-le-mul_right (2 ^ 1074) p) in
        lt_irrefl b (lt_of_lt_of_le l (le_trans (pow_mono {i = 52} {j = 1074} (omega arith)) (subst (λ (z : ℕ). 2 ^ 1074 ≤ z) (sym e ∙ mul-one b) q)))

negative_none : (x t n : ℕ) → x ≤ 2047 → 0 < n → eq (of_fields binary64 true x t) (whole n) ≡ false
negative_none zero t n h p =
    ap (λ (v : Float). eq v (whole n)) (small_fields true t) ∙ eq_negative (odd 53 true t 0 1074) (t * 2 ^ 0) (2 ^ 1074) n p (odd_sign 53 true t 0 1074)
negative_none (suc k) t n h p = go (ltb k 2046) (ltb→lt k 2046) (nltb→le k 2046)
  where
    go : (b : Bool) → (T b → k < 2046) → (T (not b) → 2046 ≤ k) → eq (of_fields binary64 true (suc k) t) (whole n) ≡ false
    go true l g =
        ap (λ (v : Float). eq v (whole n)) (normal_fields true k t (l tt))
        ∙ eq_negative (odd 53 true (2 ^ 52 + t) k 1074) ((2 ^ 52 + t) * 2 ^ k) (2 ^ 1074) n p (odd_sign 53 true (2 ^ 52 + t) k 1074)
    go false l g =
        let g' = g tt in
        let e : suc k ≡ 2047 = omega arith in
        rw e (top_fields true t n)

pub rest_none : (b n : ℕ) → 2047 * 2 ^ 52 ≤ b → b < 2 ^ 64 → 0 < n → eq (of_bits binary64 b) (whole n) ≡ false
rest_none b n g l p = go (ltb b (2 ^ 63)) (ltb→lt b (2 ^ 63)) (nltb→le b (2 ^ 63))
  where
    go : (t : Bool) → (T t → b < 2 ^ 63) → (T (not t) → 2 ^ 63 ≤ b) → eq (of_bits binary64 b) (whole n) ≡ false
    go true s r =
        let s' = s tt in
        ap (λ (v : Float). eq v (whole n)) (fields b {x = 2047} (lt-leb (2 ^ 63) b s') (omega arith) refl) ∙ top_fields false (b % 2 ^ 52) n
    go false s r =
        let r' = r tt in
        ap (λ (v : Float). eq v (whole n)) (fields b (le-leb (2 ^ 63) b r') refl refl) ∙ negative_none (b % 2 ^ 63 / 2 ^ 52) (b % 2 ^ 52) n (omega arith) p

-- ---- what differs from itself is a NaN, and no number; what does not has a pattern of its own

pub number_of_eq : (x : Float) → ne x x ≡ false → T (not (is_nan x))
unfolding ne eq is_nan
number_of_eq nan h = subst T h tt
number_of_eq (inf s) h = tt
number_of_eq (fin s m e) h = tt

pub nan_none : (x : Float) (n : ℕ) → ne x x ≡ true → eq x (whole n) ≡ false
unfolding eq
nan_none x n h = ap (λ (v : Float). eq v (whole n)) (differs_from_itself x (subst T (sym h) tt))
