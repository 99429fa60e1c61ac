-- The binomial coefficient is whole, and follows Pascal's rule. By induction on m the falling product of w + 1 factors of m + 1 is both m + 1 times that of w
-- factors of m, and the sum by which Pascal's rule goes on. Assumes nothing.
use mathlib.Core.Path.{◌≡◌, refl, sym, ap, ◌∙◌, subst}
use mathlib.Core.Logic.{⊎_elim}
use Prim.Native.Nat.{ℕ, zero, suc, ◌+◌, ◌-◌, ◌*◌, ◌/◌, ◌≤◌, ◌<◌}
use native.Mathlib.Nat.{mul_comm, mul_assoc, mul_right_comm, mul-add, add-mul, zero-mul, mul-zero, mul-pos, mul-le-mul, mul-le-mul_right, mul-div_cancel, zero-div, eq_of_mul-eq-mul_right, le_refl, zero-lt-suc, eq-zero-or-pos}
use native.Mathlib.Omega.{arith}
use lib.Ieee.Nearest.{div_mono}
use lib.Ieee.Positive.{first_pos}
use Rattle.combinations.specs.Binomial.{falling, factorial, binomial}
use Rattle.combinations.specs.Theorems.{NoRest, Pascal}

pub factorial_pos : (w : ℕ) → 0 < factorial w
factorial_pos zero = zero-lt-suc 0
factorial_pos (suc w) = mul-pos (factorial_pos w) (omega arith)

-- the first factor taken off in front
pub falling_front : (m w : ℕ) → falling (suc m) (suc w) ≡ suc m * falling m w
falling_front m zero = omega arith
falling_front m (suc w) =
    let e : suc m - suc w ≡ m - w = omega arith in
    ap (λ (x : ℕ). x * (suc m - suc w)) (falling_front m w) ∙ mul_assoc (suc m) (falling m w) (suc m - suc w) ∙ ap (λ (x : ℕ). suc m * (falling m w * x)) e

-- below w factors there is a 0 among them
falling_short : (m w : ℕ) → m < w → falling m w ≡ 0
falling_short m zero h = absurd (omega arith)
falling_short zero (suc zero) h = refl
falling_short zero (suc (suc w)) h = ap (λ (x : ℕ). x * (0 - suc w)) (falling_short zero (suc w) (omega arith)) ∙ zero-mul (0 - suc w)
falling_short (suc m) (suc w) h = falling_front m w ∙ ap (λ (x : ℕ). suc m * x) (falling_short m w (omega arith)) ∙ mul-zero (suc m)

-- m + 1 as m - w and w + 1
falling_sum : (m w : ℕ) → falling (suc m) (suc w) ≡ falling m w * (w + 1) + falling m (suc w)
falling_sum m w =
    falling_front m w
    ∙ ⊎_elim
    (λ z.
    let e : suc m ≡ w + 1 + (m - w) = omega arith in
    mul_comm (suc m) (falling m w) ∙ ap (λ (x : ℕ). falling m w * x) e ∙ mul-add (falling m w) (w + 1) (m - w))
    (λ p.
    let s : falling m w ≡ 0 = falling_short m w (omega arith) in
    rw s (simp (zero-mul, mul-zero)))
    (eq-zero-or-pos (w - m))

-- ---- Pascal's triangle

abbrev chosen : ℕ → ℕ → ℕ
chosen m zero = 1
chosen zero (suc w) = 0
chosen (suc m) (suc w) = chosen m w + chosen m (suc w)

chosen_whole : (m w : ℕ) → chosen m w * factorial w ≡ falling m w
chosen_whole m zero = refl
chosen_whole zero (suc w) = zero-mul (factorial (suc w)) ∙ sym (falling_short zero (suc w) (omega arith))
chosen_whole (suc m) (suc w) =
    add-mul (chosen m w) (chosen m (suc w)) (factorial (suc w))
    ∙ ap (λ (x : ℕ). x + chosen m (suc w) * factorial (suc w)) (sym (mul_assoc (chosen m w) (factorial w) (w + 1)))
    ∙ (λ i. chosen_whole m w i * (w + 1) + chosen_whole m (suc w) i)
    ∙ sym (falling_sum m w)

is_chosen : (m w : ℕ) → binomial m w ≡ chosen m w
is_chosen m w = ap (λ (x : ℕ). x / factorial w) (sym (chosen_whole m w)) ∙ mul-div_cancel (chosen m w) (factorial_pos w)

pub no_rest : NoRest
no_rest m w = ap (λ (x : ℕ). x * factorial w) (is_chosen m w) ∙ chosen_whole m w

pub pascal : Pascal
pascal =
    record {
      edge = λ m. refl;
      top = λ w. is_chosen 0 (suc w);
      rule = λ m w. is_chosen (suc m) (suc w) ∙ (λ i. sym (is_chosen m w) i + sym (is_chosen m (suc w)) i);
    }

pub binomial_one : (m : ℕ) → binomial m 1 ≡ m
binomial_one m = omega arith

pub binomial_short : (m w : ℕ) → m < w → binomial m w ≡ 0
binomial_short m w h = ap (λ (x : ℕ). x / factorial w) (falling_short m w h) ∙ zero-div (factorial w)

-- ---- one factor more

pub next_binomial : (m i : ℕ) → binomial m i * (m - i) ≡ binomial m (suc i) * (i + 1)
next_binomial m i =
    eq_of_mul-eq-mul_right (factorial i) (factorial_pos i) (binomial m i * (m - i)) (binomial m (suc i) * (i + 1))
    (mul_right_comm (binomial m i) (m - i) (factorial i)
    ∙ ap (λ (x : ℕ). x * (m - i)) (no_rest m i)
    ∙ sym (no_rest m (suc i))
    ∙ ap (λ (x : ℕ). binomial m (suc i) * x) (mul_comm (factorial i) (i + 1))
    ∙ sym (mul_assoc (binomial m (suc i)) (i + 1) (factorial i)))

pub falling_pos : (m w : ℕ) → w ≤ m → 0 < falling m w
falling_pos m zero h = zero-lt-suc 0
falling_pos m (suc i) h = mul-pos (falling_pos m i (omega arith)) (omega arith)

pub binomial_pos : (m w : ℕ) → w ≤ m → 0 < binomial m w
binomial_pos m w h = first_pos (binomial m w) (factorial w) (subst (λ (x : ℕ). 0 < x) (sym (no_rest m w)) (falling_pos m w h))

-- ---- the product of a step grows with m

falling_mono : (m n w : ℕ) → m ≤ n → falling m w ≤ falling n w
falling_mono m n zero h = le_refl 1
falling_mono m n (suc i) h = mul-le-mul (falling_mono m n i h) (omega arith)

pub step_mono : (m n i : ℕ) → m ≤ n → binomial m i * (m - i) ≤ binomial n i * (n - i)
step_mono m n i h =
    mul-le-mul
    (div_mono (falling m i) (factorial i) (falling n i) (factorial i) (factorial_pos i) (factorial_pos i) (mul-le-mul_right (factorial i) (falling_mono m n i h)))
    (omega arith)
