-- The laws for callers, of the whole answer. Assumes nothing.
use mathlib.Core.Path.{◌≡◌, refl, sym, ap, ◌∙◌, subst}
use mathlib.Core.Logic.{⊎_elim}
use mathlib.Core.Bool.{true}
use Prim.Native.Nat.{ℕ, zero, suc, ◌-◌, ◌^◌, ◌≤◌, ◌<◌}
use native.Mathlib.Nat.{eq-zero-or-pos, le_trans}
use native.Mathlib.Omega.{arith}
use lib.Dec.{leb, leb→le}
use lib.IntN.{pos}
use lib.ListN.{get_or, get_or-eq_default}
use lib.Ieee.{of_bits, of_int, eq}
use borrow.Author.Tests.{le-ltb, lt-ltb, lt-leb}
use Rattle.combinations.specs.Binomial.{binomial, whole, exact}
use Rattle.floats.specs.{float}
use Rattle.combinations.specs.Combinations.{zero64, one64, value, product, whole_factor, counted, combinations}
use Rattle.combinations.specs.Theorems.{ExactIsValue, EveryFlag, unrounded, ExactUpTo, OneIsExact}
use Rattle.combinations.proofs.Binomial.{binomial_one, binomial_short, binomial_pos}
use Rattle.combinations.proofs.Tables.{at_entry}
use Rattle.combinations.proofs.Value.{whole_value, value_whole}
use Rattle.combinations.proofs.Steps.{product_exact, product_is}

one_is : one64 ≡ float 1
unfolding of_bits of_int
one_is = refl

zero_is : zero64 ≡ float 0
unfolding of_bits of_int
zero_is = refl

-- ---- where no product is worked

one_exact : (m : ℕ) → exact one64 m 0 ≡ true
unfolding eq of_bits
one_exact m = refl

zero_exact : (m w : ℕ) → m < w → exact zero64 m w ≡ true
unfolding eq of_bits
zero_exact m w h = ap (λ (n : ℕ). eq zero64 (whole n)) (binomial_short m w h)

-- ---- the answer by its branches

short : (m w : ℕ) → m < suc w → combinations (pos m) (pos (suc w)) ≡ value zero64 true
short m w k = simp (lt-leb (suc w) 0 (omega arith), lt-ltb m (suc w) k)

worked : (m w : ℕ) → suc w ≤ 16 → m ≤ 2 ^ 53 → suc w ≤ m → combinations (pos m) (pos (suc w)) ≡ counted m (suc w)
worked m w h l k = simp (lt-leb (suc w) 0 (omega arith), le-ltb m (suc w) k, le-ltb 16 (suc w) h, le-ltb (2 ^ 53) m l)

pub every_flag : EveryFlag
every_flag m zero h l = record { x = one64; answer = ap (value one64) (sym (one_exact m)) }
every_flag m (suc w) h l =
    ⊎_elim
    (λ z. record { x = product (whole_factor (pos m)) (suc w); answer = worked m w h l (omega arith) })
    (λ p.
    let k : m < suc w = omega arith in
    record { x = zero64; answer = short m w k ∙ ap (value zero64) (sym (zero_exact m (suc w) k)) })
    (eq-zero-or-pos (suc w - m))

-- ---- up to the table's bounds

in_domain : (m w : ℕ) → w ≤ 16 → m ≤ get_or unrounded w 0 → m ≤ 2 ^ 53
in_domain m w h l = le_trans l (leb→le (get_or unrounded w 0) (2 ^ 53) (at_entry (λ k n. leb n (2 ^ 53)) unrounded tt w (omega arith)))

fewer : (m w : ℕ) → m < suc w → combinations (pos m) (pos (suc w)) ≡ value (float (binomial m (suc w))) true
fewer m w k = short m w k ∙ ap (λ x. value x true) (zero_is ∙ ap float (sym (binomial_short m (suc w) k)))

pub exact_up_to : ExactUpTo
exact_up_to m zero l = ap (λ x. value x true) one_is
exact_up_to m (suc w) l =
    ⊎_elim
    (λ z.
    let h : suc w ≤ 16 = omega arith in
    ⊎_elim
    (λ y.
    let k : suc w ≤ m = omega arith in
    worked m w h (in_domain m (suc w) h l) k ∙ (λ i. value (product_is m (suc w) h k l i) (product_exact m (suc w) h k l i)))
    (λ p. fewer m w (omega arith))
    (eq-zero-or-pos (suc w - m)))
    (λ p. fewer m w (omega (arith, subst (λ (n : ℕ). m ≤ n) (get_or-eq_default unrounded 0 {n = suc w} (omega arith)) l)))
    (eq-zero-or-pos (suc w - 16))

pub one_is_exact : OneIsExact
one_is_exact m h = exact_up_to m 1 h ∙ ap (λ (n : ℕ). value (float n) true) (binomial_one m)

-- ---- what the flag says

pub exact_is_value : ExactIsValue
exact_is_value x m w h = record { told = whole_value x (binomial m w) (binomial_pos m w h); held = value_whole x (binomial m w) }
