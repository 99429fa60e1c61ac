-- A number that is written reads as itself, and what stands behind it is left: for whoever writes a net text. Assumes nothing.
use Prim.Native.Nat.{ℕ, zero, suc, ◌+◌, ◌-◌, ◌*◌, ◌/◌, ◌%◌, ◌^◌, ◌≤◌, ◌<◌}
use mathlib.Core.Path.{◌≡◌, refl, ap, ◌∙◌}
use mathlib.Core.Bool.{Bool, true, false}
use mathlib.Core.List.{[], ◌∷◌, ◌++◌, append_assoc}
use native.Mathlib.Omega.{arith}
use native.Mathlib.Nat.{pow-zero, pow-suc}
use lib.Dec.{eqb, ltb}
use borrow.Author.Tests.{lt-ltb, le-ltb, le-leb, lt-leb, ne_eqb, ltb-true, ltb-false}
use Rattle.text.specs.Text.{Bytes}
use Rattle.text.specs.Numbers.{digit, leading_digits, decimal_text, hex_digits}
use Rattle.net_text.specs.Forms.{Met, wrong, met, behind, value_from, is_digit_byte, digits, after_digits, some_digits, zero_leads, decimal, hex_digit, hex_from, hexadecimal}

-- ---- decimals

value_last : (v : ℕ) (ds : Bytes) (d : ℕ) → value_from v (ds ++ (d ∷ [])) ≡ value_from v ds * 10 + (d - 48)
value_last v [] d = refl
value_last v (b ∷ ds) d = value_last (v * 10 + (b - 48)) ds d

-- a digit below ten: its byte is 48 more
digit_low : (d : ℕ) → d < 10 → digit d ≡ 48 + d
digit_low d h = rw (lt-ltb d 10 h)

digit_value : (d : ℕ) → d < 10 → digit d - 48 ≡ d
digit_value d h = rw (digit_low d h) (omega arith)

digit_is : (d : ℕ) → d < 10 → is_digit_byte (digit d) ≡ true
digit_is d h = rw (digit_low d h, le-leb 48 (48 + d) (omega arith), le-leb (48 + d) 57 (omega arith))

-- the digits of n have the value n
leading_value : (k n : ℕ) → n ≤ k → value_from 0 (leading_digits k n) ≡ n
leading_value zero n h = omega arith
leading_value (suc k) zero h = refl
leading_value (suc k) (suc n) h =
    let earlier : value_from 0 (leading_digits k (suc n / 10)) ≡ suc n / 10 = leading_value k (suc n / 10) (omega arith) in
    rw (value_last 0 (leading_digits k (suc n / 10)) (digit (suc n % 10)), earlier, digit_value (suc n % 10) (omega arith)) (omega arith)

decimal_value : (n : ℕ) → value_from 0 (decimal_text n) ≡ n
decimal_value n =
    rw (value_last 0 (leading_digits n (n / 10)) (digit (n % 10)), leading_value n (n / 10) (omega arith), digit_value (n % 10) (omega arith)) (omega arith)

-- they are digits all
abbrev every_digit : Bytes → Type 0
every_digit [] = Unit {0}
every_digit (b ∷ ds) = (is_digit_byte b ≡ true) × every_digit ds

all_last : (ds : Bytes) (d : ℕ) → every_digit ds → is_digit_byte d ≡ true → every_digit (ds ++ (d ∷ []))
all_last [] d h e = (e, tt)
all_last (b ∷ ds) d h e = (h.0, all_last ds d h.1 e)

leading_all : (k n : ℕ) → every_digit (leading_digits k n)
leading_all zero n = tt
leading_all (suc k) zero = tt
leading_all (suc k) (suc n) =
    all_last (leading_digits k (suc n / 10)) (digit (suc n % 10)) (leading_all k (suc n / 10)) (digit_is (suc n % 10) (omega arith))

decimal_all : (n : ℕ) → every_digit (decimal_text n)
decimal_all n = all_last (leading_digits n (n / 10)) (digit (n % 10)) (leading_all n (n / 10)) (digit_is (n % 10) (omega arith))

-- the leading digits, where there is one, begin with no zero
abbrev begun : Bytes → Type 0
begun [] = ⊥
begun (b ∷ ds) = eqb b 48 ≡ false

begun_more : (ds es : Bytes) → begun ds → begun (ds ++ es)
begun_more [] es h = absurd h
begun_more (b ∷ ds) es h = h

none_of_zero : (k : ℕ) → leading_digits k 0 ≡ []
none_of_zero zero = refl
none_of_zero (suc k) = refl

no_zero : (d : ℕ) → d < 10 → 0 < d → eqb (digit d) 48 ≡ false
no_zero d h l = rw (digit_low d h) (ne_eqb (48 + d) 48 (λ e. omega arith))

begun_by : (k n q : ℕ) → suc n / 10 ≡ q → ((m : ℕ) → suc m ≤ k → begun (leading_digits k (suc m))) → suc n ≤ suc k
    → begun (leading_digits k (suc n / 10) ++ (digit (suc n % 10) ∷ []))
begun_by k n zero e earlier h = rw (e, none_of_zero k) (no_zero (suc n % 10) (omega arith) (omega arith))
begun_by k n (suc q) e earlier h = begun_more (leading_digits k (suc n / 10)) (digit (suc n % 10) ∷ []) (rw e (earlier q (omega arith)))

leading_begun : (k n : ℕ) → suc n ≤ k → begun (leading_digits k (suc n))
leading_begun zero n h = absurd (omega arith)
leading_begun (suc k) n h = begun_by k n (suc n / 10) refl (leading_begun k) h

not_led : (ds : Bytes) (d : ℕ) → begun ds → zero_leads (ds ++ (d ∷ [])) ≡ false
not_led [] d h = refl
not_led (b ∷ []) d h = h
not_led (b ∷ c ∷ ds) d h = h

not_led_by : (n q : ℕ) → n / 10 ≡ q → zero_leads (decimal_text n) ≡ false
not_led_by n zero e = rw (e, none_of_zero n)
not_led_by n (suc q) e = not_led (leading_digits n (n / 10)) (digit (n % 10)) (rw e (leading_begun n q (omega arith)))

-- a run of digits ends at the first byte that is none
abbrev pub NoDigit : Bytes → Type 0
NoDigit [] = Unit {0}
NoDigit (b ∷ t) = is_digit_byte b ≡ false

digits_whole : (ds t : Bytes) → every_digit ds → NoDigit t → digits (ds ++ t) ≡ ds
digits_whole [] [] h e = refl
digits_whole [] (b ∷ t) h e = rw e
digits_whole (b ∷ ds) t h e = rw (h.0, digits_whole ds t h.1 e)

digits_after : (ds t : Bytes) → every_digit ds → NoDigit t → after_digits (ds ++ t) ≡ t
digits_after [] [] h e = refl
digits_after [] (b ∷ t) h e = rw e
digits_after (b ∷ ds) t h e = rw (h.0, digits_after ds t h.1 e)

some_digits_lem : (ds es t : Bytes) (d : ℕ) → es ≡ ds ++ (d ∷ []) → some_digits es t ≡ met (record { value = value_from 0 es; zero_led = zero_leads es }) t
some_digits_lem [] es t d e = rw e
some_digits_lem (b ∷ ds) es t d e = rw e

pub decimal_reads : (n : ℕ) (t : Bytes) → NoDigit t → decimal (decimal_text n ++ t) ≡ met (record { value = n; zero_led = false }) t
decimal_reads n t e =
    rw (digits_whole (decimal_text n) t (decimal_all n) e, digits_after (decimal_text n) t (decimal_all n) e)
    (some_digits_lem (leading_digits n (n / 10)) (decimal_text n) t (digit (n % 10)) refl
    ∙ ap (λ (v : ℕ). met (record { value = v; zero_led = zero_leads (decimal_text n) }) t) (decimal_value n)
    ∙ ap (λ (z : Bool). met (record { value = n; zero_led = z }) t) (not_led_by n (n / 10) refl))

-- ---- floats

digit_high : (d : ℕ) → 10 ≤ d → digit d ≡ 87 + d
digit_high d h = rw (le-ltb d 10 h)

hex_digit_by : (d : ℕ) (t : Bytes) (x : Bool) → ltb d 10 ≡ x → d < 16 → hex_digit (digit d ∷ t) ≡ met d t
hex_digit_by d t true e h =
    let low : d < 10 = ltb-true d 10 e in
    rw (digit_is d low, digit_value d low)
hex_digit_by d t false e h =
    let high : 10 ≤ d = ltb-false d 10 e in
    let back : 87 + d - 87 ≡ d = omega arith in
    rw (
      digit_high d high,
      le-leb 48 (87 + d) (omega arith),
      lt-leb (87 + d) 57 (omega arith),
      le-leb 97 (87 + d) (omega arith),
      le-leb (87 + d) 102 (omega arith),
      back,
    )

-- one digit more, behind k of them
hex_more : (m : Met ℕ) (k v u d : ℕ) (t : Bytes)
    → ((w : ℕ) (r : Bytes) → hex_from k w r ≡ met u (digit d ∷ t) → hex_from (suc k) w r ≡ met (u * 16 + d) t)
    → behind m (λ (a : ℕ). hex_from k (v * 16 + a)) ≡ met u (digit d ∷ t) → behind m (λ (a : ℕ). hex_from (suc k) (v * 16 + a)) ≡ met (u * 16 + d) t
hex_more wrong k v u d t earlier e = cc
hex_more (met a r) k v u d t earlier e = earlier (v * 16 + a) r e

hex_last : (k v u d : ℕ) (s t : Bytes) → d < 16 → hex_from k v s ≡ met u (digit d ∷ t) → hex_from (suc k) v s ≡ met (u * 16 + d) t
hex_last zero v u d s t h e =
    let value : v ≡ u = cc in
    let left : s ≡ digit d ∷ t = cc in
    rw (left, hex_digit_by d t (ltb d 10) refl h, value)
hex_last (suc k) v u d s t h e = hex_more (hex_digit s) k v u d t (λ w r f. hex_last k w u d r t h f) e

hex_reads : (k b : ℕ) (t : Bytes) → b < 16 ^ k → hex_from k 0 (hex_digits k b ++ t) ≡ met b t
hex_reads zero b t h = let none : b ≡ 0 = omega (arith, rw (pow-zero 16) at h) in rw none
hex_reads (suc k) b t h =
    let small : b / 16 < 16 ^ k = omega (arith, rw (pow-suc 16 k) at h) in
    let whole : b / 16 * 16 + b % 16 ≡ b = omega arith in
    rw (append_assoc (hex_digits k (b / 16)) (digit (b % 16) ∷ []) t)
    (hex_last k 0 (b / 16) (b % 16) (hex_digits k (b / 16) ++ (digit (b % 16) ∷ t)) t (omega arith) (hex_reads k (b / 16) (digit (b % 16) ∷ t) small)
    ∙ ap (λ (x : ℕ). met x t) whole)

-- sixteen digits of 64 bits
pub hexadecimal_reads : (b : ℕ) (t : Bytes) → b < 2 ^ 64 → hexadecimal (hex_digits 16 b ++ t) ≡ met b t
hexadecimal_reads b t h = hex_reads 16 b t h
