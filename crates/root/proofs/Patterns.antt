-- `root_of` at each bit pattern, by the pattern's fields, and the value of the pattern that the program makes. A positive pattern is so many units, and
-- `root_of` depends on their number only; the zeros and the infinity are computed; every other pattern is a NaN or lies below zero. Assumes nothing.
use Rattle.std.proofs.Common.{◌≡◌, ℕ, zero, suc, ◌+◌, ◌-◌, ◌*◌, ◌/◌, ◌%◌, ◌^◌, ◌<◌, ◌≤◌, Bool, true, false, not, T, ltb, leb, ℤ, sym, refl, ap, ◌∙◌, subst, true≢false, le_trans, lt_irrefl, mul-le-mul_right, mul_assoc, mul-pos, lt_of_not-le, zero-mul, mul-one, not-le_of_lt, mul-div_cancel, arith, ltb→lt, nltb→le, pow_pos, pow_mono, pow-add, shl_lt, ne_eqb, le-leb}
use mathlib.Core.Bool.{false≢true}
use lib.Count.{count_leading_zeros, leading_top}
use borrow.Author.Tests.{lt-leb}
use lib.Ieee.{Float, nan, inf, fin, binary64, up, down, odd, of_fields, of_bits, to_bits, fits, nan_bits, is_nan, ne, eq, div}
use lib.Ieee.Bits.{of_bits-to_bits}
use lib.Ieee.Compare.{differs_from_itself}
use lib.Ieee.Exact.{HasValue, odd_sign}
use lib.Ieee.Fits.{down_pos}
use Rattle.root.specs.Root.{root_in, root_of}

-- ---- from a value

no_zero : (e : ℤ) (n : ℕ) → 0 < n → 0 * up e * 2 ^ 1074 ≡ n * down e → ⊥
no_zero e n p h =
    lt_irrefl 0 (subst (λ (x : ℕ). 0 < x) (sym h ∙ ap (λ (y : ℕ). y * 2 ^ 1074) (zero-mul (up e)) ∙ zero-mul (2 ^ 1074)) (mul-pos p (down_pos e)))

pub root_of_value : (v : Float) (n : ℕ) → 0 < n → HasValue v false n (2 ^ 1074) → root_of v ≡ root_in (n * 2 ^ 1074)
unfolding root_of
root_of_value nan n p h = absurd h
root_of_value (inf s) n p h = absurd h
root_of_value (fin s zero e) n p h = absurd (no_zero e n p h.1)
root_of_value (fin true (suc m) e) n p h = absurd (true≢false h.0)
root_of_value (fin false (suc m) e) n p h = ap (λ (x : ℕ). root_in (x * 2 ^ 1074)) (ap (λ (x : ℕ). x / down e) h.1 ∙ mul-div_cancel n (down_pos e))

root_of_negative : (v : Float) (n : ℕ) → 0 < n → HasValue v true n (2 ^ 1074) → root_of v ≡ nan
unfolding root_of
root_of_negative nan n p h = absurd h
root_of_negative (inf s) n p h = absurd h
root_of_negative (fin s zero e) n p h = absurd (no_zero e n p h.1)
root_of_negative (fin true (suc m) e) n p h = refl
root_of_negative (fin false (suc m) e) n p h = absurd (false≢true h.0)

-- ---- from fields

fields : (b : ℕ) {s : Bool} {x t : ℕ} → leb (2 ^ 63) b ≡ s → b % 2 ^ 63 / 2 ^ 52 ≡ x → b % 2 ^ 52 ≡ t → of_bits binary64 b ≡ of_fields binary64 s x t
unfolding of_bits
fields b e₁ e₂ e₃ = λ i. of_fields binary64 (e₁ i) (e₂ i) (e₃ i)

normal_fields : (s : Bool) (k t : ℕ) → k < 2046 → of_fields binary64 s (suc k) t ≡ odd 53 s (2 ^ 52 + t) k 1074
unfolding of_fields
normal_fields s k t h = rw (ne_eqb (suc k) 2047 (omega arith)) refl

small_fields : (s : Bool) (t : ℕ) → of_fields binary64 s 0 t ≡ odd 53 s t 0 1074
unfolding of_fields
small_fields s t = refl

normal_bits : (k t : ℕ) → k < 2046 → t < 2 ^ 52 → of_bits binary64 ((k + 1) * 2 ^ 52 + t) ≡ odd 53 false (2 ^ 52 + t) k 1074
normal_bits k t h l =
    fields ((k + 1) * 2 ^ 52 + t) {x = suc k} (lt-leb (2 ^ 63) ((k + 1) * 2 ^ 52 + t) (omega arith)) (omega arith) (omega arith) ∙ normal_fields false k t h

-- the pattern of q steps of 2 ^ k, q of 53 digits: the leading digit of q adds one to the exponent's field
pub made_bits : (k q : ℕ) → k < 2046 → 2 ^ 52 ≤ q → q < 2 ^ 53 → of_bits binary64 (k * 2 ^ 52 + q) ≡ odd 53 false q k 1074
made_bits k q h g l =
    let e₁ : k * 2 ^ 52 + q ≡ (k + 1) * 2 ^ 52 + (q - 2 ^ 52) = omega arith in
    let e₂ : 2 ^ 52 + (q - 2 ^ 52) ≡ q = omega arith in
    ap (of_bits binary64) e₁ ∙ normal_bits k (q - 2 ^ 52) h (omega arith) ∙ ap (λ (x : ℕ). odd 53 false x k 1074) e₂

pub finite_number : (b : ℕ) → b < 2047 * 2 ^ 52 → T (not (nan_bits binary64 b))
unfolding nan_bits
finite_number b l = rw (ne_eqb (b % 2 ^ 63 / 2 ^ 52) 2047 (omega arith)) tt

-- ---- the root at a pattern

-- a normal value is (t + 2 ^ 52) * 2 ^ (e - 1) units, and its root is that of (t + 2 ^ 52) * 2 ^ (52 + (e + 1021))
normal_value : (b : ℕ) → 0 < b / 2 ^ 52 → b < 2047 * 2 ^ 52 → HasValue (of_bits binary64 b) false ((2 ^ 52 + b % 2 ^ 52) * 2 ^ (b / 2 ^ 52 - 1)) (2 ^ 1074)
normal_value b p l =
    let k = b / 2 ^ 52 - 1 in
    let t = b % 2 ^ 52 in
    let e : b ≡ (k + 1) * 2 ^ 52 + t = omega arith in
    let v : of_bits binary64 b ≡ odd 53 false (2 ^ 52 + t) k 1074 = ap (of_bits binary64) e ∙ normal_bits k t (omega arith) (omega arith) in
    rw v (odd_sign 53 false (2 ^ 52 + t) k 1074)

normal_scaled : (b : ℕ) → 0 < b / 2 ^ 52 → (2 ^ 52 + b % 2 ^ 52) * 2 ^ (b / 2 ^ 52 - 1) * 2 ^ 1074 ≡ (b % 2 ^ 52 + 2 ^ 52) * 2 ^ (52 + (b / 2 ^ 52 + 1021))
normal_scaled b p =
    let k = b / 2 ^ 52 - 1 in
    let t = b % 2 ^ 52 in
    let w : k + 1074 ≡ 52 + (b / 2 ^ 52 + 1021) = omega arith in
    let c : 2 ^ 52 + t ≡ t + 2 ^ 52 = omega arith in
    mul_assoc (2 ^ 52 + t) (2 ^ k) (2 ^ 1074) ∙ (λ i. c i * (sym (pow-add 2 k 1074) ∙ ap (λ (x : ℕ). 2 ^ x) w) i)

pub root_of_normal : (b : ℕ) → 0 < b / 2 ^ 52 → b < 2047 * 2 ^ 52 → root_of (of_bits binary64 b) ≡ root_in ((b % 2 ^ 52 + 2 ^ 52) * 2 ^ (52 + (b / 2 ^ 52 + 1021)))
root_of_normal b p l =
    root_of_value (of_bits binary64 b) ((2 ^ 52 + b % 2 ^ 52) * 2 ^ (b / 2 ^ 52 - 1)) (mul-pos (omega arith) (pow_pos (b / 2 ^ 52 - 1))) (normal_value b p l)
    ∙ ap root_in (normal_scaled b p)

-- the same of a value by its own pattern
pub root_of_own : (x : Float) (b : ℕ) → T (fits binary64 x) → b ≡ to_bits binary64 x → 2 ^ 52 ≤ b → b < 2047 * 2 ^ 52
    → root_in ((b % 2 ^ 52 + 2 ^ 52) * 2 ^ (52 + (b / 2 ^ 52 + 1021))) ≡ root_of x
root_of_own x b h e g l = sym (root_of_normal b (omega arith) l) ∙ ap root_of (ap (of_bits binary64) e ∙ of_bits-to_bits binary64 x h)

-- a subnormal value is b units
small_value : (b : ℕ) → b < 2 ^ 52 → HasValue (of_bits binary64 b) false b (2 ^ 1074)
small_value b l =
    let v : of_bits binary64 b ≡ odd 53 false b 0 1074 = fields b {x = 0} {t = b} (lt-leb (2 ^ 63) b (omega arith)) (omega arith) (omega arith) ∙ small_fields false b in
    rw v (subst (λ (x : ℕ). HasValue (odd 53 false b 0 1074) false x (2 ^ 1074)) (mul-one b) (odd_sign 53 false b 0 1074))

pub root_of_small : (b : ℕ) → 0 < b → b < 2 ^ 52 → root_of (of_bits binary64 b) ≡ root_in (b * 2 ^ 1074)
root_of_small b p l = root_of_value (of_bits binary64 b) b p (small_value b l)

-- above the infinity: a NaN, or what is below zero

top_fields : (s : Bool) (t : ℕ) → 0 < t → root_of (of_fields binary64 s 2047 t) ≡ nan
unfolding root_of of_fields
top_fields s t p = rw (ne_eqb t 0 (omega arith)) refl

negative_infinity : root_of (of_fields binary64 true 2047 0) ≡ nan
unfolding root_of of_fields
negative_infinity = refl

negative_top : (t : ℕ) → root_of (of_fields binary64 true 2047 t) ≡ nan
negative_top zero = negative_infinity
negative_top (suc t) = top_fields true (suc t) (omega arith)

negative_fields : (x t : ℕ) → x ≤ 2047 → 0 < x + t → root_of (of_fields binary64 true x t) ≡ nan
negative_fields zero t h p = ap root_of (small_fields true t) ∙ root_of_negative (odd 53 true t 0 1074) (t * 2 ^ 0) (omega arith) (odd_sign 53 true t 0 1074)
negative_fields (suc k) t h p = go (ltb k 2046) (ltb→lt k 2046) (nltb→le k 2046)
  where
    go : (b : Bool) → (T b → k < 2046) → (T (not b) → 2046 ≤ k) → root_of (of_fields binary64 true (suc k) t) ≡ nan
    go true l g =
        ap root_of (normal_fields true k t (l tt))
        ∙ root_of_negative (odd 53 true (2 ^ 52 + t) k 1074) ((2 ^ 52 + t) * 2 ^ k) (mul-pos (omega arith) (pow_pos k)) (odd_sign 53 true (2 ^ 52 + t) k 1074)
    go false l g =
        let g' = g tt in
        let e : suc k ≡ 2047 = omega arith in
        rw e (negative_top t)

pub root_of_rest : (b : ℕ) → 2047 * 2 ^ 52 < b → (b ≡ 2 ^ 63 → ⊥) → b < 2 ^ 64 → root_of (of_bits binary64 b) ≡ nan
root_of_rest b g d l = go (ltb b (2 ^ 63)) (ltb→lt b (2 ^ 63)) (nltb→le b (2 ^ 63))
  where
    go : (t : Bool) → (T t → b < 2 ^ 63) → (T (not t) → 2 ^ 63 ≤ b) → root_of (of_bits binary64 b) ≡ nan
    go true s n =
        let s' = s tt in
        ap root_of (fields b {x = 2047} (lt-leb (2 ^ 63) b s') (omega arith) refl) ∙ top_fields false (b % 2 ^ 52) (omega arith)
    go false s n =
        let n' = n tt in
        let b' : 2 ^ 63 < b = omega arith in
        ap root_of (fields b (le-leb (2 ^ 63) b n') refl refl) ∙ negative_fields (b % 2 ^ 63 / 2 ^ 52) (b % 2 ^ 52) (omega arith) (omega arith)

-- the infinity and the zeros
pub root_of_infinity : root_of (of_bits binary64 0x7FF0_0000_0000_0000) ≡ of_bits binary64 0x7FF0_0000_0000_0000
unfolding root_of of_bits
root_of_infinity = refl

pub root_of_zero : root_of (of_bits binary64 0) ≡ of_bits binary64 0
unfolding root_of of_bits
root_of_zero = refl

pub root_of_minus_zero : root_of (of_bits binary64 0x8000_0000_0000_0000) ≡ of_bits binary64 0x8000_0000_0000_0000
unfolding root_of of_bits
root_of_minus_zero = refl

-- what does not differ from itself is no NaN, and what does is
pub number_of_eq : (x : Float) → ne x x ≡ false → T (not (is_nan x))
unfolding ne eq is_nan
number_of_eq nan h = subst T h tt
number_of_eq (inf s) h = tt
number_of_eq (fin s m e) h = tt

pub root_of_nan : (x : Float) → ne x x ≡ true → x ≡ root_of x
unfolding root_of
root_of_nan x h = let e = differs_from_itself x (subst T (sym h) tt) in subst (λ (y : Float). y ≡ root_of y) (sym e) refl

pub zero_over_zero : div binary64 (of_bits binary64 0) (of_bits binary64 0) ≡ nan
unfolding of_bits div
zero_over_zero = refl

-- ---- a subnormal value, moved up to 53 digits

module _ (b : ℕ) (p : 0 < b) (l : b < 2 ^ 52) where
  abbrev s : ℕ
  s = count_leading_zeros 64 b - 11

  pub record Moved : Type 0 where
    pub enough : 12 ≤ count_leading_zeros 64 b
    pub few : count_leading_zeros 64 b ≤ 63
    pub long : 2 ^ 52 ≤ (b * 2 ^ s) % 2 ^ 64
    pub short : (b * 2 ^ s) % 2 ^ 64 < 2 ^ 53
    pub same : (b * 2 ^ s) % 2 ^ 64 * 2 ^ (52 + (1022 - s)) ≡ b * 2 ^ 1074

  pub moved : Moved
  moved =
      let t = leading_top 64 b p (omega arith) in
      let j = t.0 in
      let e : count_leading_zeros 64 b + suc j ≡ 64 = t.1 in
      let j< : j < 52 = lt_of_not-le (λ (g : 52 ≤ j). not-le_of_lt l (le_trans (pow_mono g) t.2)) in
      let e₁ : j + s ≡ 52 = omega arith in
      let e₂ : suc j + s ≡ 53 = omega arith in
      let e₃ : s + (52 + (1022 - s)) ≡ 1074 = omega arith in
      let lo : 2 ^ 52 ≤ b * 2 ^ s = subst (λ (x : ℕ). x ≤ b * 2 ^ s) (sym (pow-add 2 j s) ∙ ap (λ (x : ℕ). 2 ^ x) e₁) (mul-le-mul_right (2 ^ s) t.2) in
      let hi : b * 2 ^ s < 2 ^ 53 = subst (λ (x : ℕ). b * 2 ^ s < 2 ^ x) e₂ (shl_lt (suc j) s t.3) in
      let whole : (b * 2 ^ s) % 2 ^ 64 ≡ b * 2 ^ s = omega arith in
      record {
        enough = omega arith;
        few = omega arith;
        long = omega arith;
        short = omega arith;
        same = ap (λ (x : ℕ). x * 2 ^ (52 + (1022 - s))) whole ∙ mul_assoc b (2 ^ s) (2 ^ (52 + (1022 - s))) ∙ ap (λ (x : ℕ). b * x) (sym (pow-add 2 s (52 + (1022 - s))) ∙ ap (λ (x : ℕ). 2 ^ x) e₃);
      }
