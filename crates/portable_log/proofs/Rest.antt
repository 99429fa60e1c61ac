-- The logarithm off a pattern, and that of what is left of 1. `rest x` is n * 2 ^ -53 for a whole number n, so nothing in it is rounded, and its pattern is that of n with an
-- exponent's field that is 53 lower. The digits of a pattern tell whether its fraction is doubled, and doubled it has the same digits under the next field. Assumes nothing.
use mathlib.Core.Path.{◌≡◌, refl, sym, ap, ◌∙◌}
use mathlib.Core.Logic.{◌⊎◌, inl, inr}
use mathlib.Core.Bool.{Bool, true, false, not, cond, true≢false}
use Prim.Native.Nat.{ℕ, suc, ◌+◌, ◌-◌, ◌*◌, ◌/◌, ◌%◌, ◌^◌, ◌≤◌, ◌<◌}
use native.Mathlib.Nat.{add_comm, add-zero, div-one, eq_of_mul-eq-mul_right, eq-or-lt_of_le, le-div_iff_mul-le, le_of_eq, le_of_mul-le-mul_right, le_trans, lt_irrefl, lt_of_le_of_lt, lt_of_lt_of_le, lt_of_mul-lt-mul_right, lt_of_not-le, mod-eq_of_lt, mul_assoc, mul_comm, mul-div_cancel, mul-div-mul_right, mul-le-mul_right, mul-one, mul-pos, mul_right_comm, mul-sub, zero-add}
use native.Mathlib.Omega.{arith}
use lib.Dec.{T, ltb, leb}
use lib.Bits.{bit_and, bit_or, and_block, and_mask, or_shifted_r}
use lib.IntN.{ℤ, pos, negsuc, neg_ℤ, ◌+ℤ◌, ◌-ℤ◌, +ℤ_assoc, +ℤ-neg_ℤ_cancel, neg_ℤ-+ℤ, pos-+ℤ-pos}
use lib.Pow.{pow-add, pow_pos, pow_mono, pow-lt, shl_lt}
use borrow.Author.Tests.{ltb-true, ltb-false, lt-ltb, le-ltb, lt-leb, eq-eqb, ne_eqb}
use lib.Ieee.{Float, nan, inf, fin, binary64, up, down, size, round, sum, neg, add, sub, mul, lt, eq, ne, is_nan, nan_bits, of_int, of_fields, of_bits, to_bits, fits}
use lib.Ieee.Back.{round_whole}
use lib.Ieee.Bits.{of_bits-to_bits, of_bits-fits}
use lib.Ieee.Digits.{size-lt, size-le, size_reaches}
use lib.Ieee.Exact.{HasValue, odd_sign, round_exact}
use lib.Ieee.Fits.{down_pos, round-fits, kept-lt}
use lib.Ieee.Nearest.{div_same}
use lib.Ieee.Scale.{round_same}
use Rattle.portable_log.specs.Log.{rest, one64, two64, sqrt2over2, combine, parts_of, of_parts, plog}
use Rattle.portable_log.proofs.Laws.{no_nan, field_of, at_normal}

-- ---- the value of what is left

-- a value is any fraction of its size
revalue : (x : Float) (s : Bool) (a c b d : ℕ) → 0 < c → a * d ≡ b * c → HasValue x s a c → HasValue x s b d
revalue nan s a c b d p h v = v
revalue (inf t) s a c b d p h v = v
revalue (fin t m e) s a c b d p h v = (
  v.0,
  eq_of_mul-eq-mul_right c p (m * up e * d) (b * down e)
      (mul_right_comm (m * up e) d c
      ∙ ap (λ (z : ℕ). z * d) v.1
      ∙ mul_right_comm a (down e) d
      ∙ ap (λ (z : ℕ). z * down e) h
      ∙ mul_right_comm b c (down e)),
)

-- a value times a power of 2, and 1 less a value up to 1: each is one fraction, rounded
times_power : (x : Float) (a c : ℕ) (d : ℤ) → 0 < c → HasValue x false a c → mul binary64 x (fin false 1 d) ≡ round binary64 false (a * up d) (c * down d)
unfolding mul
times_power nan a c d p v = absurd v
times_power (inf t) a c d p v = absurd v
times_power (fin true m e) a c d p v = absurd (true≢false v.0)
times_power (fin false m e) a c d p v =
    round_same binary64 false (m * up e * (1 * up d)) (down e * down d) (a * up d) (c * down d) (mul-pos (down_pos e) (down_pos d)) (mul-pos p (down_pos d))
    (omega (arith, ap (λ (z : ℕ). z * (up d * down d)) v.1))

-- (w - m) / w is (c - a) / c where m / w is a / c
left : (w m a c : ℕ) → m * c ≡ a * w → (1 * w - m * 1) * c ≡ (c - a) * (1 * w)
left w m a c h = omega (arith, mul-sub c (1 * w) (m * 1), mul-sub (1 * w) c a)

one_less : (x : Float) (a c : ℕ) → 0 < c → a ≤ c → HasValue x false a c → sub binary64 (fin false 1 (pos 0)) x ≡ round binary64 false (c - a) c
unfolding sub add neg sum
one_less nan a c p h v = absurd v
one_less (inf t) a c p h v = absurd v
one_less (fin true m e) a c p h v = absurd (true≢false v.0)
one_less (fin false m e) a c p h v =
    let w = down e in
    let below : m * up e ≤ w = le_of_mul-le-mul_right (le_trans (le_of_eq v.1) (le_trans (mul-le-mul_right w h) (le_of_eq (mul_comm c w)))) p in
    rw (le-ltb (1 * w) (m * up e * 1) (omega arith))
    (round_same binary64 false (1 * w - m * up e * 1) (1 * w) (c - a) c (omega (arith, down_pos e)) p (left w (m * up e) a c v.1))

-- n * 2 ^ -53, up to 1, is a value of the format
part_value : (n : ℕ) → n ≤ 2 ^ 53 → HasValue (round binary64 false n (2 ^ 53)) false n (2 ^ 53)
part_value n h = go (eq-or-lt_of_le h)
  where
    go : (n ≡ 2 ^ 53) ⊎ (n < 2 ^ 53) → HasValue (round binary64 false n (2 ^ 53)) false n (2 ^ 53)
    go (inl e) = rw e (round_exact binary64 false (2 ^ 53) (2 ^ 53) 1 1074 (omega arith) (omega arith) (pow-lt {i = 1074} {j = 2098} (omega arith)) refl)
    go (inr l) =
        round_exact binary64 false n (2 ^ 53) n 1021 (omega arith) l (lt_of_lt_of_le (shl_lt 53 1021 l) (pow_mono {i = 1074} {j = 2098} (omega arith)))
        (sym (mul_assoc n (2 ^ 1021) (2 ^ 53)))

-- the number that an output's upper bits give, and what it leaves of 1
uniform_is : (k : ℕ) → k ≤ 2 ^ 53 → mul binary64 (of_int binary64 (pos k)) (of_bits binary64 0x3CA0_0000_0000_0000) ≡ round binary64 false k (2 ^ 53)
unfolding of_bits of_int
uniform_is k h = times_power (round binary64 false k 1) k 1 (negsuc 52) (omega arith) (round_whole binary64 false k h) ∙ ap (λ (n : ℕ). round binary64 false n (2 ^ 53)) (mul-one k)

rest_is : (x : ℕ) → x < 2 ^ 64 → rest x ≡ round binary64 false (2 ^ 53 - x / 2 ^ 11) (2 ^ 53)
unfolding of_bits
rest_is x h =
    let k = x / 2 ^ 11 in
    let l : k ≤ 2 ^ 53 = omega arith in
    ap (sub binary64 one64) (uniform_is k l) ∙ one_less (round binary64 false k (2 ^ 53)) k (2 ^ 53) (omega arith) l (part_value k l)

rest_value : (x : ℕ) → x < 2 ^ 64 → HasValue (rest x) false (2 ^ 53 - x / 2 ^ 11) (2 ^ 53)
rest_value x h = rw (rest_is x h) (part_value (2 ^ 53 - x / 2 ^ 11) (omega arith))

-- ---- its pattern

-- the pattern of u times the format's smallest value
abbrev pattern : ℕ → ℕ
pattern u = (size u - 53) * 2 ^ 52 + u / 2 ^ (size u - 53)

bits_of : (x : Float) (a c : ℕ) → 0 < c → HasValue x false a c → to_bits binary64 x ≡ pattern (a * 2 ^ 1074 / c)
unfolding to_bits
bits_of nan a c p v = absurd v
bits_of (inf t) a c p v = absurd v
bits_of (fin true m e) a c p v = absurd (true≢false v.0)
bits_of (fin false m e) a c p v =
    let l = 2 ^ 1074 in
    let w : m * up e * l * c ≡ a * l * down e = mul_right_comm (m * up e) l c ∙ ap (λ (z : ℕ). z * l) v.1 ∙ mul_right_comm a (down e) l in
    omega arith ∙ ap pattern (div_same (m * up e * l) (down e) (a * l) c (down_pos e) p w)

-- 2 ^ t times a number has t digits more
size_scaled : (u t : ℕ) → 0 < size u → size (u * 2 ^ t) ≡ size u + t
size_scaled u t p =
    let z = size u - 1 in
    let reach : 2 ^ (z + t) ≤ u * 2 ^ t = le_trans (le_of_eq (pow-add 2 z t)) (mul-le-mul_right (2 ^ t) (size_reaches u z (omega arith))) in
    let more : z + t < size (u * 2 ^ t) = lt_of_not-le (λ (g : size (u * 2 ^ t) ≤ z + t). lt_irrefl (2 ^ (z + t)) (lt_of_le_of_lt reach (lt_of_lt_of_le (size-lt (u * 2 ^ t)) (pow_mono g)))) in
    omega (arith, size-le (u * 2 ^ t) (size u + t) (shl_lt (size u) t (size-lt u)))

-- so in the normal range its pattern has an exponent's field that is t higher
pattern_scaled : (u t : ℕ) → 53 ≤ size u → pattern (u * 2 ^ t) ≡ pattern u + t * 2 ^ 52
pattern_scaled u t h =
    let k = size u - 53 in
    let e : size (u * 2 ^ t) - 53 ≡ k + t = omega (arith, size_scaled u t (omega arith)) in
    let q : u * 2 ^ t / 2 ^ (k + t) ≡ u / 2 ^ k = ap (λ (z : ℕ). u * 2 ^ t / z) (pow-add 2 k t) ∙ mul-div-mul_right u (2 ^ k) (pow_pos t) in
    ap (λ (z : ℕ). z * 2 ^ 52 + u * 2 ^ t / 2 ^ z) e ∙ omega arith

-- where a field is 52 less than the number of digits
pattern_bounds : (u : ℕ) → 53 ≤ size u → (2 ^ 52 ≤ pattern u) × (pattern u < (size u - 51) * 2 ^ 52)
pattern_bounds u h =
    let k = size u - 53 in
    let lo : 2 ^ 52 ≤ u / 2 ^ k = (le-div_iff_mul-le (pow_pos k)).1 (le_trans (le_of_eq (sym (pow-add 2 52 k))) (size_reaches u (52 + k) (omega arith))) in
    let hi : u / 2 ^ k < 2 ^ 53 = kept-lt 53 u in
    omega arith

-- the patterns of n * 2 ^ -53 and of n
module _ (n : ℕ) (p : 0 < n) (h : n ≤ 2 ^ 53) where
  digits : (0 < size n) × (size n ≤ 54)
  digits = (lt_of_not-le (λ (g : size n ≤ 0). lt_irrefl n (lt_of_lt_of_le (lt_of_lt_of_le (size-lt n) (pow_mono g)) p)), size-le n 54 (omega arith))

  all_digits : size (n * 2 ^ 1021) ≡ size n + 1021
  all_digits = size_scaled n 1021 digits.0

  part_bits : (x : Float) → HasValue x false n (2 ^ 53) → to_bits binary64 x ≡ pattern (n * 2 ^ 1021)
  part_bits x v =
      bits_of x n (2 ^ 53) (omega arith) v
      ∙ ap pattern (ap (λ (z : ℕ). z / 2 ^ 53) (sym (mul_assoc n (2 ^ 1021) (2 ^ 53))) ∙ mul-div_cancel (n * 2 ^ 1021) (pow_pos 53))

  whole_bits : to_bits binary64 (of_int binary64 (pos n)) ≡ pattern (n * 2 ^ 1021) + 53 * 2 ^ 52
  unfolding of_int
  whole_bits =
      bits_of (round binary64 false n 1) n 1 (omega arith) (round_whole binary64 false n h)
      ∙ ap pattern (div-one (n * 2 ^ 1074) ∙ sym (mul_assoc n (2 ^ 1021) (2 ^ 53)))
      ∙ pattern_scaled (n * 2 ^ 1021) 53 (omega (arith, all_digits))

  part_bounds : (2 ^ 52 ≤ pattern (n * 2 ^ 1021)) × (pattern (n * 2 ^ 1021) < 1024 * 2 ^ 52)
  part_bounds =
      let b = pattern_bounds (n * 2 ^ 1021) (omega (arith, all_digits)) in
      (b.0, lt_of_lt_of_le b.1 (mul-le-mul_right {n = 1024} (2 ^ 52) (omega (arith, all_digits, digits.1))))

-- ---- which fractions are doubled, and what doubling is, in the digits

-- a format writes a value in one way only
same_value : (x y : Float) (a c : ℕ) → 0 < c → T (fits binary64 x) → T (fits binary64 y) → HasValue x false a c → HasValue y false a c → x ≡ y
same_value x y a c p f g v w =
    sym (of_bits-to_bits binary64 x f) ∙ ap (of_bits binary64) (bits_of x a c p v ∙ sym (bits_of y a c p w)) ∙ of_bits-to_bits binary64 y g

-- two tests that pass together and fail together
same_test : (a b c d : ℕ) → (a < b → c < d) → (b ≤ a → d ≤ c) → ltb a b ≡ ltb c d
same_test a b c d f g = go (ltb a b) refl
  where
    go : (t : Bool) → ltb a b ≡ t → ltb a b ≡ ltb c d
    go true e = e ∙ sym (lt-ltb c d (f (ltb-true a b e)))
    go false e = e ∙ sym (le-ltb c d (g (ltb-false a b e)))

-- below r / 2 ^ (j + 1)
lt_value : (x : Float) (q r j : ℕ) → HasValue x false q (2 ^ suc j) → lt x (fin false r (negsuc j)) ≡ ltb q r
unfolding lt
lt_value nan q r j v = absurd v
lt_value (inf t) q r j v = absurd v
lt_value (fin true m e) q r j v = absurd (true≢false v.0)
lt_value (fin false m e) q r j v =
    (λ i. ltb (v.1 i) (mul-one r i * down e))
    ∙ same_test (q * down e) (r * down e) q r (λ g. lt_of_mul-lt-mul_right (down e) g) (λ g. le_of_mul-le-mul_right g (down_pos e))

-- the digits m under the exponent's field x + 1
field_value : (x m : ℕ) → suc x < 2047 → m < 2 ^ 52 → HasValue (of_bits binary64 (suc x * 2 ^ 52 + m)) false ((2 ^ 52 + m) * 2 ^ x) (2 ^ 1074)
unfolding of_bits of_fields
field_value x m h l =
    let b = suc x * 2 ^ 52 + m in
    let s : leb (2 ^ 63) b ≡ false = lt-leb (2 ^ 63) b (omega arith) in
    let f : b % 2 ^ 63 / 2 ^ 52 ≡ suc x = omega arith in
    let d : b % 2 ^ 52 ≡ m = omega arith in
    rw (s, f, d, ne_eqb (suc x) 2047 (omega arith)) (odd_sign 53 false (2 ^ 52 + m) x 1074)

two_is : two64 ≡ fin false 1 (pos 1)
unfolding of_bits
two_is = refl

root_is : sqrt2over2 ≡ fin false 0x16_A09E_667F_3BCD (negsuc 52)
unfolding of_bits
root_is = refl

-- so the digits alone tell which fractions are below sqrt(2) / 2, and a doubled fraction has them under the next field
module _ (m : ℕ) (l : m < 2 ^ 52) where
  abbrev q : ℕ
  q = 2 ^ 52 + m

  abbrev once : Float
  once = of_bits binary64 (1022 * 2 ^ 52 + m)

  abbrev twice : Float
  twice = of_bits binary64 (1023 * 2 ^ 52 + m)

  once_value : HasValue once false q (2 ^ 53)
  once_value = revalue once false (q * 2 ^ 1021) (2 ^ 1074) q (2 ^ 53) (pow_pos 1074) (mul_assoc q (2 ^ 1021) (2 ^ 53)) (field_value 1021 m (omega arith) l)

  twice_value : HasValue twice false (q * 2) (2 ^ 53)
  twice_value =
      revalue twice false (q * 2 ^ 1022) (2 ^ 1074) (q * 2) (2 ^ 53) (pow_pos 1074) (mul_assoc q (2 ^ 1022) (2 ^ 53) ∙ sym (mul_assoc q 2 (2 ^ 1074)))
      (field_value 1022 m (omega arith) l)

  below_root : lt once sqrt2over2 ≡ ltb m 0x6_A09E_667F_3BCD
  below_root =
      ap (lt once) root_is
      ∙ lt_value once q 0x16_A09E_667F_3BCD 52 once_value
      ∙ same_test q 0x16_A09E_667F_3BCD m 0x6_A09E_667F_3BCD (λ g. omega arith) (λ g. omega arith)

  doubled : mul binary64 once two64 ≡ twice
  doubled =
      ap (mul binary64 once) two_is
      ∙ times_power once q (2 ^ 53) (pos 1) (omega arith) once_value
      ∙ same_value (round binary64 false (q * 2) (2 ^ 53)) twice (q * 2) (2 ^ 53) (omega arith) (round-fits binary64 false (q * 2) (2 ^ 53)) (of_bits-fits binary64 (1023 * 2 ^ 52 + m))
      (round_exact binary64 false (q * 2) (2 ^ 53) q 1022 (omega arith) (omega arith)
      (lt_of_lt_of_le (shl_lt 53 1022 (omega arith)) (pow_mono {i = 1075} {j = 2098} (omega arith)))
      (mul_assoc q 2 (2 ^ 1074) ∙ sym (mul_assoc q (2 ^ 1022) (2 ^ 53))))
      twice_value

-- ---- the logarithm off the pattern

-- a pattern without a sign, with 1022 in its exponent's field
half_pattern : (b : ℕ) → b < 2 ^ 63 → bit_or (bit_and b 0x800F_FFFF_FFFF_FFFF) (1022 * 2 ^ 52) ≡ 1022 * 2 ^ 52 + b % 2 ^ 52
half_pattern b h =
    ap (λ (n : ℕ). bit_or n (1022 * 2 ^ 52))
    (ap (λ (n : ℕ). bit_and n 0x800F_FFFF_FFFF_FFFF) (sym (zero-add b))
    ∙ and_block 63 0 1 b (2 ^ 52 - 1) h (omega arith)
    ∙ zero-add (bit_and b (2 ^ 52 - 1))
    ∙ and_mask b 52)
    ∙ or_shifted_r 1022 52 (b % 2 ^ 52) (omega arith)

-- exponents: two numbers off one after the other, and the same number on both sides
less_twice : (a c k : ℕ) → pos a -ℤ pos c -ℤ pos k ≡ pos a -ℤ pos (c + k)
less_twice a c k = +ℤ_assoc (pos a) (neg_ℤ (pos c)) (neg_ℤ (pos k)) ∙ ap (λ (z : ℤ). pos a +ℤ z) (sym (neg_ℤ-+ℤ (pos c) (pos k)) ∙ ap neg_ℤ (pos-+ℤ-pos c k))

both_more : (a c k : ℕ) → pos (a + k) -ℤ pos (c + k) ≡ pos a -ℤ pos c
both_more a c k =
    ap (λ (n : ℕ). pos (a + k) -ℤ pos n) (add_comm c k)
    ∙ sym (less_twice (a + k) k c)
    ∙ ap (λ (z : ℤ). z -ℤ pos c) (ap (λ (z : ℤ). z -ℤ pos k) (sym (pos-+ℤ-pos a k)) ∙ +ℤ-neg_ℤ_cancel (pos a) (pos k))

-- 1 for the digits of a fraction that is doubled, else 0
abbrev pub twofold : ℕ → ℕ
twofold m = cond (ltb m 0x6_A09E_667F_3BCD) 1 0

pub twofold_lt : (m : ℕ) → twofold m < 2
twofold_lt m = go (ltb m 0x6_A09E_667F_3BCD)
  where
    go : (t : Bool) → cond t 1 0 < 2
    go true = omega arith
    go false = omega arith

-- the digits of a pattern, put under the field 1022 or 1023
pub put_under : (b d : ℕ) → d < 2 → bit_or (bit_and b (2 ^ 52 - 1)) ((1022 + d) * 2 ^ 52 % 2 ^ 64) ≡ (1022 + d) * 2 ^ 52 + b % 2 ^ 52
put_under b d h =
    let e : (1022 + d) * 2 ^ 52 % 2 ^ 64 ≡ (1022 + d) * 2 ^ 52 = mod-eq_of_lt (omega arith) in
    (λ i. bit_or (and_mask b 52 i) (e i)) ∙ or_shifted_r (1022 + d) 52 (b % 2 ^ 52) (omega arith)

pub under_is_no_nan : (m d : ℕ) → m < 2 ^ 52 → d < 2 → T (not (nan_bits binary64 ((1022 + d) * 2 ^ 52 + m)))
unfolding nan_bits
under_is_no_nan m d l h =
    let f : ((1022 + d) * 2 ^ 52 + m) % 2 ^ 63 / 2 ^ 52 ≡ 1022 + d = omega arith in
    rw (f, ne_eqb (1022 + d) 2047 (omega arith)) tt

-- so the definition's logarithm goes by the digits and the field
pub by_digits : (k b : ℕ) → b < 2 ^ 63
    → combine (of_bits binary64 ((1022 + twofold (b % 2 ^ 52)) * 2 ^ 52 + b % 2 ^ 52)) (pos (b / 2 ^ 52) -ℤ pos (1022 + k + twofold (b % 2 ^ 52)))
    ≡ of_parts (parts_of k b)
by_digits k b h =
    let m = b % 2 ^ 52 in
    let l : m < 2 ^ 52 = omega arith in
    rw (field_of b h, half_pattern b h, below_root m l, doubled m l) (go (ltb m 0x6_A09E_667F_3BCD))
  where
    go : (t : Bool) → combine (of_bits binary64 ((1022 + cond t 1 0) * 2 ^ 52 + b % 2 ^ 52)) (pos (b / 2 ^ 52) -ℤ pos (1022 + k + cond t 1 0))
        ≡ cond t (combine (of_bits binary64 (1023 * 2 ^ 52 + b % 2 ^ 52)) (pos (b / 2 ^ 52) -ℤ pos (1022 + k) -ℤ pos 1))
        (combine (of_bits binary64 (1022 * 2 ^ 52 + b % 2 ^ 52)) (pos (b / 2 ^ 52) -ℤ pos (1022 + k)))
    go true = ap (combine (of_bits binary64 (1023 * 2 ^ 52 + b % 2 ^ 52))) (sym (less_twice (b / 2 ^ 52) (1022 + k) 1))
    go false = ap (λ (n : ℕ). combine (of_bits binary64 (1022 * 2 ^ 52 + b % 2 ^ 52)) (pos (b / 2 ^ 52) -ℤ pos n)) (add-zero (1022 + k))

-- the parts of a number are also read off the pattern of 2 ^ k times the number
parts_scaled : (k b : ℕ) → b + k * 2 ^ 52 < 2 ^ 63 → parts_of k (b + k * 2 ^ 52) ≡ parts_of 0 b
parts_scaled k b h =
    let c = b + k * 2 ^ 52 in
    let l : b < 2 ^ 63 = omega arith in
    let d : c % 2 ^ 52 ≡ b % 2 ^ 52 = omega arith in
    let f : c / 2 ^ 52 ≡ b / 2 ^ 52 + k = omega arith in
    let frac = ap (of_bits binary64) (half_pattern c h ∙ ap (λ (m : ℕ). 1022 * 2 ^ 52 + m) d ∙ sym (half_pattern b l)) in
    let exp = ap (λ (n : ℕ). pos n -ℤ pos (1022 + k)) (field_of c h ∙ f) ∙ both_more (b / 2 ^ 52) 1022 k ∙ ap (λ (n : ℕ). pos n -ℤ pos 1022) (sym (field_of b l)) in
    λ i. record { frac = frac i; exp = exp i }

-- what has a value is equal to itself
equals_itself : (x : Float) (s : Bool) (a c : ℕ) → HasValue x s a c → ne x x ≡ false
unfolding ne eq
equals_itself nan s a c v = absurd v
equals_itself (inf t) s a c v = absurd v
equals_itself (fin true m e) s a c v = rw (eq-eqb (m * up e * down e) (m * up e * down e) refl) refl
equals_itself (fin false m e) s a c v = rw (eq-eqb (m * up e * down e) (m * up e * down e) refl) refl

pub whole_is_no_nan : (n : ℕ) → n ≤ 2 ^ 53 → T (not (is_nan (of_int binary64 (pos n))))
unfolding of_int
whole_is_no_nan n h = no_nan (round binary64 false n 1) (equals_itself (round binary64 false n 1) false n 1 (round_whole binary64 false n h))

-- so the logarithm of what is left is that of the whole number's pattern
module _ (x : ℕ) (h : x < 2 ^ 64) where
  abbrev n : ℕ
  n = 2 ^ 53 - x / 2 ^ 11

  pub whole_lt : to_bits binary64 (of_int binary64 (pos n)) < 2 ^ 63
  whole_lt = omega (arith, whole_bits n (omega arith) (omega arith), part_bounds n (omega arith) (omega arith))

  pub at_rest : of_parts (parts_of 53 (to_bits binary64 (of_int binary64 (pos n)))) ≡ plog (rest x)
  at_rest =
      let p : 0 < n = omega arith in
      let l : n ≤ 2 ^ 53 = omega arith in
      let v = rest_value x h in
      let b = to_bits binary64 (rest x) in
      let e : b ≡ pattern (n * 2 ^ 1021) = part_bits n p l (rest x) v in
      let w : to_bits binary64 (of_int binary64 (pos n)) ≡ b + 53 * 2 ^ 52 = whole_bits n p l ∙ ap (λ (z : ℕ). z + 53 * 2 ^ 52) (sym e) in
      let t = part_bounds n p l in
      ap (λ (z : ℕ). of_parts (parts_of 53 z)) w
      ∙ ap of_parts (parts_scaled 53 b (omega arith))
      ∙ at_normal (rest x) (equals_itself (rest x) false n (2 ^ 53) v) (omega arith) (omega arith)
