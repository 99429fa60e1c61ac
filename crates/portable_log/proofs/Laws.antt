-- Facts on bit patterns, signs, NaN and small differences, and the definition of `plog` case by case. Assumes nothing.
use mathlib.Core.Path.{◌≡◌, refl, sym, ap, ◌∙◌}
use mathlib.Core.Bool.{Bool, true, false, not, ◌&&◌, cond, true≢false}
use Prim.Native.Nat.{ℕ, zero, suc, ◌+◌, ◌-◌, ◌*◌, ◌/◌, ◌%◌, ◌^◌, ◌≤◌, ◌<◌}
use native.Mathlib.Omega.{arith}
use native.Mathlib.Nat.{div-lt_iff_lt-mul, le_of_eq, lt_of_lt_of_le, lt_of_not-le, mod-eq_of_lt, mul-lt-mul_of_pos_right, mul-pos, mul_right_comm, zero-mul, zero-div}
use lib.Dec.{T, eqb, ltb, leb, lt→ltb, ltb→lt}
use lib.Bits.{bit_and, bit_or, or_mod, or_shr, and_mod, and_shr, and_zero_r, and_mask}
use lib.IntN.{ℤ, pos, negsuc, ◌-ℤ◌}
use lib.Pow.{pow_pos}
use lib.Signed.{mag}
use Rattle.portable_log.specs.declared.Parts.{Parts}
use Rattle.portable_log.specs.Log.{frexp, field, parts_of, of_parts, plog, zero64, two52}
use borrow.Author.Tests.{lt-ltb, le-ltb, eq-eqb, ne_eqb}
use lib.Ieee.Compare.{differs_from_itself}
use lib.Ieee.Digits.{size-le}
use lib.Ieee.Fits.{and_r, up_pos, down_pos, kept-lt, mul-fits}
use lib.Ieee.Positive.{positive}
use lib.Ieee.{Float, nan, inf, fin, Format, binary64, nan_bits, is_nan, fits, unlike, mul, round, units, odd, of_bits, to_bits, div, ne, eq, lt, low, emax, prec, size, span, climb, up, down}

-- the exponent's field of the pattern with 1022 put there
half_field : (b : ℕ) → bit_or (bit_and b 0x800F_FFFF_FFFF_FFFF) (1022 * 2 ^ 52) % 2 ^ 63 / 2 ^ 52 ≡ 1022
half_field b =
    ap (λ (n : ℕ). n / 2 ^ 52) (or_mod (bit_and b 0x800F_FFFF_FFFF_FFFF) (1022 * 2 ^ 52) 63)
    ∙ or_shr (bit_and b 0x800F_FFFF_FFFF_FFFF % 2 ^ 63) (1022 * 2 ^ 52 % 2 ^ 63) 52
    ∙ ap (λ (n : ℕ). bit_or n 1022)
    (ap (λ (n : ℕ). n / 2 ^ 52) (and_mod b 0x800F_FFFF_FFFF_FFFF 63) ∙ and_shr (b % 2 ^ 63) 0xF_FFFF_FFFF_FFFF 52 ∙ and_zero_r (b % 2 ^ 63 / 2 ^ 52))

pub half_is_no_nan : (b : ℕ) → T (not (nan_bits binary64 (bit_or (bit_and b 0x800F_FFFF_FFFF_FFFF) (1022 * 2 ^ 52))))
unfolding nan_bits
half_is_no_nan b = rw (half_field b) tt

-- the field is small

-- a number or an infinity of this sign
abbrev HasSign : Float → Bool → Type 0
HasSign nan s = ⊥
HasSign (inf t) s = t ≡ s
HasSign (fin t m e) s = t ≡ s

-- is what rounding gives
sign_of_odd : (d : ℕ) (s : Bool) (q k l : ℕ) → HasSign (odd d s q k l) s
unfolding odd
sign_of_odd d s zero k l = refl
sign_of_odd d s (suc q) k l = refl

sign_of_cond : (t : Bool) (x y : Float) (s : Bool) → HasSign x s → HasSign y s → HasSign (cond t x y) s
sign_of_cond true x y s hx hy = hx
sign_of_cond false x y s hx hy = hy

sign_of_units : (f : Format) (s : Bool) (q k : ℕ) → HasSign (units f s q k) s
unfolding units
sign_of_units f s q k =
    sign_of_cond (ltb (q * 2 ^ k) (2 ^ (low f + suc (emax f)))) (odd (suc (prec f)) s q k (low f)) (inf s) s (sign_of_odd (suc (prec f)) s q k (low f)) refl

sign_of_round : (f : Format) (s : Bool) (n d : ℕ) → HasSign (round f s n d) s
unfolding round
sign_of_round f s n d = sign_of_units f s _ _

sign_of_mul : (f : Format) (s : Bool) (m : ℕ) (e : ℤ) (t : Bool) (n : ℕ) (d : ℤ) → HasSign (mul f (fin s m e) (fin t n d)) (unlike s t)
unfolding mul
sign_of_mul f s m e t n d = sign_of_round f (unlike s t) _ _

signed_number : (x : Float) (s : Bool) → HasSign x s → T (not (is_nan x))
unfolding is_nan
signed_number nan s h = h
signed_number (inf t) s h = tt
signed_number (fin t m e) s h = tt

-- so a number or an infinity times 2 ^ 52 is no NaN
pub scaled_number : (x : Float) → T (not (is_nan x)) → T (not (is_nan (mul binary64 x two52)))
unfolding is_nan mul of_bits
scaled_number nan h = h
scaled_number (inf s) h = tt
scaled_number (fin s m e) h = signed_number (mul binary64 (fin s m e) (fin false 1 (pos 52))) (unlike s false) (sign_of_mul binary64 s m e false 1 (pos 52))

-- the difference of two small numbers is small
cond_mag : (t : Bool) (x y : ℤ) (n : ℕ) → mag x < n → mag y < n → mag (cond t x y) < n
cond_mag true x y n hx hy = hx
cond_mag false x y n hx hy = hy

pub mag_diff : (a b n : ℕ) → a < n → b < n → mag (pos a -ℤ pos b) < n
mag_diff a zero n ha hb = omega arith
mag_diff a (suc b) n ha hb = cond_mag (ltb a (suc b)) (negsuc (suc b - suc a)) (pos (a - suc b)) n (omega arith) (omega arith)

-- the infinities and the NaN that the program makes
pub inf_bits : of_bits binary64 0x7FF0_0000_0000_0000 ≡ inf false
unfolding of_bits
inf_bits = refl

pub minus_inf_bits : of_bits binary64 0xFFF0_0000_0000_0000 ≡ inf true
unfolding of_bits
minus_inf_bits = refl

pub zero_over_zero : div binary64 (of_bits binary64 0) (of_bits binary64 0) ≡ nan
unfolding of_bits div
zero_over_zero = refl

pub inf_is_no_nan : T (not (nan_bits binary64 0x7FF0_0000_0000_0000))
unfolding nan_bits
inf_is_no_nan = tt

pub minus_inf_is_no_nan : T (not (nan_bits binary64 0xFFF0_0000_0000_0000))
unfolding nan_bits
minus_inf_is_no_nan = tt

-- what does not differ from itself is no NaN
pub number_of_eq : (x : Float) → ne x x ≡ false → is_nan x ≡ false
unfolding ne eq is_nan
number_of_eq nan h = h
number_of_eq (inf s) h = refl
number_of_eq (fin s m e) h = refl

pub no_nan : (x : Float) → ne x x ≡ false → T (not (is_nan x))
no_nan x h = rw (number_of_eq x h) tt

-- what differs from itself is the NaN
pub nan_of_ne : (x : Float) → ne x x ≡ true → x ≡ nan
nan_of_ne x h = differs_from_itself x (rw h tt)

pub frexp_nan : frexp nan ≡ record { frac = of_bits binary64 0x3FE8_0000_0000_0000; exp = pos 1025 }
unfolding to_bits of_bits
frexp_nan = refl

-- the definition at each outcome of its tests on x
pub at_nan : (x : Float) → ne x x ≡ true → x ≡ plog x
unfolding is_nan
at_nan x h = rw (nan_of_ne x h)

pub at_infinity : (x : Float) → ne x x ≡ false → eq x (inf false) ≡ true → x ≡ plog x
at_infinity x h₁ h₂ = simp (number_of_eq x h₁, h₂)

pub at_negative : (x : Float) → ne x x ≡ false → eq x (inf false) ≡ false → lt x zero64 ≡ true → nan ≡ plog x
at_negative x h₁ h₂ h₃ = simp (number_of_eq x h₁, h₂, h₃)

pub at_zero : (x : Float) → ne x x ≡ false → eq x (inf false) ≡ false → lt x zero64 ≡ false → eq x zero64 ≡ true → inf true ≡ plog x
at_zero x h₁ h₂ h₃ h₄ = simp (number_of_eq x h₁, h₂, h₃, h₄)

pub at_number : (x : Float) (p : Parts) → p ≡ frexp x → ne x x ≡ false → eq x (inf false) ≡ false → lt x zero64 ≡ false → eq x zero64 ≡ false
    → of_parts p ≡ plog x
at_number x p e h₁ h₂ h₃ h₄ = simp (number_of_eq x h₁, h₂, h₃, h₄) (ap of_parts e)

-- without a sign, the bits above the lowest 52 are the exponent's field
pub field_of : (b : ℕ) → b < 2 ^ 63 → field b ≡ b / 2 ^ 52
field_of b h = and_mask (b / 2 ^ 52) 11 ∙ mod-eq_of_lt (omega arith)

-- A number whose pattern has no sign, and an exponent's field that is neither 0 nor all ones, is finite and above 0. So each of the four tests on it is
-- false, and its parts are read off its pattern.
zero_bits : (e : ℤ) → to_bits binary64 (fin false 0 e) ≡ 0
unfolding to_bits size span climb
zero_bits e =
    let z : 0 * up e * 2 ^ 1074 / down e ≡ 0 = ap (λ (n : ℕ). n * 2 ^ 1074 / down e) (zero-mul (up e)) ∙ zero-div (down e) in
    rw z refl

normal_positive : (x : Float) → 1 ≤ to_bits binary64 x / 2 ^ 52 → to_bits binary64 x / 2 ^ 52 < 2047 → T (positive x)
unfolding to_bits
normal_positive nan h l = omega arith
normal_positive (inf true) h l = omega arith
normal_positive (inf false) h l = omega arith
normal_positive (fin true m e) h l = omega arith
normal_positive (fin false zero e) h l = omega (arith, zero_bits e)
normal_positive (fin false (suc m) e) h l = lt→ltb 0 (suc m) (omega arith)

no_infinity : (x : Float) → T (positive x) → eq x (inf false) ≡ false
unfolding eq
no_infinity nan p = absurd p
no_infinity (inf s) p = absurd p
no_infinity (fin s m e) p = refl

not_below : (x : Float) → T (positive x) → lt x zero64 ≡ false
unfolding lt of_bits
not_below nan p = absurd p
not_below (inf s) p = absurd p
not_below (fin true m e) p = absurd p
not_below (fin false m e) p = le-ltb (m * up e * 1) (0 * 1 * down e) (omega arith)

no_zero : (x : Float) → T (positive x) → eq x zero64 ≡ false
unfolding eq of_bits
no_zero nan p = absurd p
no_zero (inf s) p = absurd p
no_zero (fin true m e) p = absurd p
no_zero (fin false zero e) p = absurd p
no_zero (fin false (suc m) e) p = rw (ne_eqb (suc m * up e * 1) (0 * 1 * down e) (omega (arith, mul-pos {m = suc m} (omega arith) (up_pos e)))) refl

pub at_normal : (x : Float) → ne x x ≡ false → 1 ≤ to_bits binary64 x / 2 ^ 52 → to_bits binary64 x / 2 ^ 52 < 2047
    → of_parts (parts_of 0 (to_bits binary64 x)) ≡ plog x
at_normal x n h l =
    let p = normal_positive x h l in
    let b = to_bits binary64 x in
    let f : field b ≡ b / 2 ^ 52 = field_of b (omega arith) in
    let e : parts_of 0 b ≡ frexp x = simp (ne_eqb (field b) 0 (omega arith)) in
    at_number x (parts_of 0 b) e n (no_infinity x p) (not_below x p) (no_zero x p)

-- either zero equals 0, and a negative number that is no zero is below 0
zero_equals : (s : Bool) (e : ℤ) → eq (fin s 0 e) zero64 ≡ true
unfolding eq of_bits
zero_equals true e = rw (zero-mul (up e), zero-mul (down e)) refl
zero_equals false e = rw (zero-mul (up e), zero-mul (down e)) refl

negative_below : (m : ℕ) (e : ℤ) → lt (fin true (suc m) e) zero64 ≡ true
unfolding lt of_bits
negative_below m e = lt-ltb 0 (suc m * up e * 1 + 0 * 1 * down e) (omega (arith, mul-pos {m = suc m} (omega arith) (up_pos e)))

-- so what passes the four tests is finite and above 0
pub past_tests : (x : Float) → ne x x ≡ false → eq x (inf false) ≡ false → lt x zero64 ≡ false → eq x zero64 ≡ false → T (positive x)
unfolding ne eq lt of_bits
past_tests nan h₁ h₂ h₃ h₄ = absurd (true≢false h₁)
past_tests (inf true) h₁ h₂ h₃ h₄ = absurd (true≢false h₃)
past_tests (inf false) h₁ h₂ h₃ h₄ = absurd (true≢false h₂)
past_tests (fin s zero e) h₁ h₂ h₃ h₄ = absurd (true≢false (sym (zero_equals s e) ∙ h₄))
past_tests (fin true (suc m) e) h₁ h₂ h₃ h₄ = absurd (true≢false (sym (negative_below m e) ∙ h₃))
past_tests (fin false (suc m) e) h₁ h₂ h₃ h₄ = lt→ltb 0 (suc m) (omega arith)

-- a / d below c, in units that are l to the whole
in_units : (a c d l : ℕ) → 0 < d → 0 < l → a < c * d → a * l / d < c * l
in_units a c d l p q h = (div-lt_iff_lt-mul p).1 (lt_of_lt_of_le (mul-lt-mul_of_pos_right h q) (le_of_eq (mul_right_comm c d l)))

-- a finite value without a sign has a pattern without one, and an exponent's field that is not all ones
finite_lt : (m : ℕ) (e : ℤ) → T (fits binary64 (fin false m e)) → to_bits binary64 (fin false m e) < 2047 * 2 ^ 52
unfolding to_bits fits
finite_lt zero e h = omega (arith, zero_bits e)
finite_lt (suc m) e h =
    let n = suc m * up e * 2 ^ 1074 / down e in
    let l : n < 2 ^ 1024 * 2 ^ 1074 = in_units (suc m * up e) (2 ^ 1024) (down e) (2 ^ 1074) (down_pos e) (pow_pos 1074) (ltb→lt (suc m * up e) (2 ^ 1024 * down e) (and_r (eqb (suc m % 2) 1 && ltb (suc m) (2 ^ 53) && leb (down e) (2 ^ 1074)) _ h)) in
    let z : size n ≤ 2098 = size-le n 2098 l in
    omega (arith, kept-lt 53 n)

no_sign_lt : (x : Float) → T (fits binary64 x) → HasSign x false → to_bits binary64 x < 2 ^ 63
unfolding to_bits
no_sign_lt nan f s = absurd s
no_sign_lt (inf true) f s = absurd (true≢false s)
no_sign_lt (inf false) f s = omega arith
no_sign_lt (fin true m e) f s = absurd (true≢false s)
no_sign_lt (fin false m e) f s = omega (arith, finite_lt m e f)

-- so the pattern of a positive number times 2 ^ 52 has no sign
pub scaled_lt : (x : Float) → T (positive x) → to_bits binary64 (mul binary64 x two52) < 2 ^ 63
unfolding of_bits
scaled_lt nan p = absurd p
scaled_lt (inf s) p = absurd p
scaled_lt (fin true m e) p = absurd p
scaled_lt (fin false m e) p =
    no_sign_lt (mul binary64 (fin false m e) (fin false 1 (pos 52))) (mul-fits binary64 (fin false m e) (fin false 1 (pos 52))) (sign_of_mul binary64 false m e false 1 (pos 52))

positive_lt : (x : Float) → T (fits binary64 x) → T (positive x) → to_bits binary64 x < 2047 * 2 ^ 52
positive_lt nan f p = absurd p
positive_lt (inf s) f p = absurd p
positive_lt (fin true m e) f p = absurd p
positive_lt (fin false m e) f p = finite_lt m e f

-- and a positive number that is not normal has the exponent's field 0: its parts are read off that product
pub parts_of_subnormal : (x : Float) → T (fits binary64 x) → T (positive x) → (1 ≤ to_bits binary64 x / 2 ^ 52 → 2047 ≤ to_bits binary64 x / 2 ^ 52)
    → parts_of 52 (to_bits binary64 (mul binary64 x two52)) ≡ frexp x
parts_of_subnormal x f p o =
    let b = to_bits binary64 x in
    let l : b < 2047 * 2 ^ 52 = positive_lt x f p in
    let z : b / 2 ^ 52 < 1 = lt_of_not-le (λ (g : 1 ≤ b / 2 ^ 52). omega (arith, o g)) in
    simp (eq-eqb (field b) 0 (field_of b (omega arith) ∙ omega arith))
