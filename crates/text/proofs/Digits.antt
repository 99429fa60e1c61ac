-- Laws of the digits: how many there are, and that a decimal is the digits that its length says.
use Prim.Native.Nat.{ℕ, zero, suc, ◌+◌, ◌-◌, ◌*◌, ◌/◌, ◌%◌, ◌^◌, ◌≤◌, ◌<◌}
use native.Mathlib.Nat.{pow-zero, pow-suc}
use native.Mathlib.Omega.{arith}
use mathlib.Core.Path.{◌≡◌, refl, ap}
use mathlib.Core.List.{[], ◌∷◌, ◌++◌}
use lib.ListN.{length, length-append}
use lib.Ieee.{Float, binary64, to_bits}
use Rattle.text.specs.Text.{Bytes}
use Rattle.text.specs.Numbers.{digit, low_digits, leading_digits, decimal_text, float_text}

pub low_length : (base k n : ℕ) → length (low_digits base k n) ≡ k
low_length base zero n = refl
low_length base (suc k) n = rw (length-append (low_digits base k (n / base)) (digit (n % base) ∷ []), low_length base k (n / base)) (omega arith)

pred : (k : ℕ) → suc k - 1 ≡ k
pred k = omega arith

-- the last of some digits
pub low_last : (base k n : ℕ) → 0 < k → low_digits base k n ≡ low_digits base (k - 1) (n / base) ++ (digit (n % base) ∷ [])
low_last base zero n h = absurd (omega arith)
low_last base (suc k) n h = rw (pred k)

-- more than enough to bound the recursion changes nothing
pub leading_enough : (j k n : ℕ) → n ≤ j → n ≤ k → leading_digits j n ≡ leading_digits k n
leading_enough zero zero n a b = refl
leading_enough zero (suc k) zero a b = refl
leading_enough zero (suc k) (suc n) a b = absurd (omega arith)
leading_enough (suc j) zero zero a b = refl
leading_enough (suc j) zero (suc n) a b = absurd (omega arith)
leading_enough (suc j) (suc k) zero a b = refl
leading_enough (suc j) (suc k) (suc n) a b = rw (leading_enough j k (suc n / 10) (omega arith) (omega arith))

-- so the digits of n, and one digit fewer for the tenth
abbrev pub count_of : ℕ → ℕ
count_of n = length (leading_digits n n)

pub count_zero : count_of 0 ≡ 0
count_zero = refl

pub count_tenth : (n : ℕ) → 0 < n → count_of n ≡ count_of (n / 10) + 1
count_tenth zero h = absurd (omega arith)
count_tenth (suc n) h =
    rw (length-append (leading_digits n (suc n / 10)) (digit (suc n % 10) ∷ []), leading_enough n (suc n / 10) (suc n / 10) (omega arith) (omega arith))

pub decimal_length : (n : ℕ) → length (decimal_text n) ≡ count_of (n / 10) + 1
decimal_length n =
    rw (length-append (leading_digits n (n / 10)) (digit (n % 10) ∷ []), leading_enough n (n / 10) (n / 10) (omega arith) (omega arith))

-- a decimal is as many lowest digits as it is long
one_more : (ds : Bytes) (n : ℕ) → ds ≡ low_digits 10 (length ds) (n / 10)
    → ds ++ (digit (n % 10) ∷ []) ≡ low_digits 10 (length (ds ++ (digit (n % 10) ∷ []))) n
one_more ds n e =
    let long : length (ds ++ (digit (n % 10) ∷ [])) ≡ suc (length ds) = simp length-append (omega arith) in
    rw long (ap (λ (l : Bytes). l ++ (digit (n % 10) ∷ [])) e)

leading_low : (k n : ℕ) → n ≤ k → leading_digits k n ≡ low_digits 10 (length (leading_digits k n)) n
leading_low zero n h = refl
leading_low (suc k) zero h = refl
leading_low (suc k) (suc n) h = one_more (leading_digits k (suc n / 10)) (suc n) (leading_low k (suc n / 10) (omega arith))

pub decimal_low : (n : ℕ) → decimal_text n ≡ low_digits 10 (length (decimal_text n)) n
decimal_low n = one_more (leading_digits n (n / 10)) n (leading_low n (n / 10) (omega arith))

pub float_length : (x : Float) → length (float_text x) ≡ 16
float_length x = low_length 16 16 (to_bits binary64 x)

-- a number below 10 ^ k has at most k digits
leading_short : (j k n : ℕ) → n < 10 ^ k → length (leading_digits j n) ≤ k
leading_short zero k n h = omega arith
leading_short (suc j) k zero h = omega arith
leading_short (suc j) zero (suc n) h = absurd (omega (arith, rw (pow-zero 10) at h))
leading_short (suc j) (suc k) (suc n) h =
    let more : 10 ^ suc k ≡ 10 ^ k * 10 = pow-suc 10 k in
    let fewer : length (leading_digits j (suc n / 10)) ≤ k = leading_short j k (suc n / 10) (omega arith) in
    omega (arith, length-append (leading_digits j (suc n / 10)) (digit (suc n % 10) ∷ []))

-- a number that fits 64 bits has 1 to 20 digits
pub decimal_short : (n : ℕ) → n < 2 ^ 64 → length (decimal_text n) ≤ 20
decimal_short n h =
    let fewer : length (leading_digits n (n / 10)) ≤ 19 = leading_short n 19 (n / 10) (omega arith) in
    omega (arith, length-append (leading_digits n (n / 10)) (digit (n % 10) ∷ []))
