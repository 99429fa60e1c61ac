-- One of x is taken in x ways, at any x of the format: x less 0, times 1 and over 1 is x, since none of the three operations rounds. A fraction that is
-- a value of the format rounds to that value, because the format writes a number in one way only. Assumes nothing.
use Prim.Native.Nat.{ℕ, zero, suc, ◌+◌, ◌-◌, ◌*◌, ◌%◌, ◌^◌, ◌≤◌, ◌<◌}
use mathlib.Core.Path.{◌≡◌, refl, sym, ap, ◌∙◌, subst}
use mathlib.Core.Bool.{Bool, true, false, cond, ◌&&◌}
use native.Mathlib.Omega.{arith}
use native.Mathlib.Nat.{mul-one, one-mul, zero-mul, mul_assoc, zero-lt-suc, pow-succ', mul-pos, lt_irrefl, lt_of_lt_of_le, mul-lt-mul_of_pos_right}
use lib.Dec.{T, eqb, ltb, leb, eqb→eq, ltb→lt, leb→le}
use lib.IntN.{ℤ, pos, negsuc}
use lib.Pow.{pow-add, pow_pos, pow-lt}
use lib.Ieee.{Float, nan, inf, fin, binary64, unlike, up, down, of_bits, of_int, fits, round, sum, add, sub, neg, mul, div}
use lib.Ieee.Exact.{HasValue, round_exact}
use lib.Ieee.Fits.{down_pos, up_pos, round-fits, and_l, and_r}
use borrow.Author.Tests.{le-ltb, leb-true, leb-false}
use Rattle.combinations.specs.Combinations.{one64}
use Rattle.combinations.proofs.Decided.{odd_pow}
use Rattle.rules.specs.Propensity.{float}
use Rattle.sde.specs.Diffusion.{ways_at}
use Rattle.engine.proofs.Arcs.{on_bool}

-- ---- the one way to write a number

-- 2 ^ e as a fraction of powers
abbrev over : ℤ → ℕ
over (pos k) = k
over (negsuc k) = 0

abbrev under : ℤ → ℕ
under (pos k) = 0
under (negsuc k) = suc k

up_is : (e : ℤ) → up e ≡ 2 ^ over e
up_is (pos k) = refl
up_is (negsuc k) = refl

down_is : (e : ℤ) → down e ≡ 2 ^ under e
down_is (pos k) = refl
down_is (negsuc k) = refl

same_exponent : (g e : ℤ) → over g + under e ≡ over e + under g → g ≡ e
same_exponent (pos a) (pos b) h = let d : a ≡ b = omega arith in ap pos d
same_exponent (pos a) (negsuc b) h = absurd (omega arith)
same_exponent (negsuc a) (pos b) h = absurd (omega arith)
same_exponent (negsuc a) (negsuc b) h = let d : a ≡ b = omega arith in ap negsuc d

record Fitting (m : ℕ) (e : ℤ) : Type 0 where
  odd_part : suc m % 2 ≡ 1
  short : suc m < 2 ^ 53
  fine : down e ≤ 2 ^ 1074
  finite : suc m * up e < 2 ^ 1024 * down e

fitting : (s : Bool) (m : ℕ) (e : ℤ) → T (fits binary64 (fin s (suc m) e)) → Fitting m e
unfolding fits
fitting s m e t =
    let d = ltb (suc m * up e) (2 ^ 1024 * down e) in
    let c = leb (down e) (2 ^ 1074) in
    let b = ltb (suc m) (2 ^ 53) in
    let a = eqb (suc m % 2) 1 in
    let t3 = and_l (a && b && c) d t in
    let t2 = and_l (a && b) c t3 in
    record {
      odd_part = eqb→eq (suc m % 2) 1 (and_l a b t2);
      short = ltb→lt (suc m) (2 ^ 53) (and_r a b t2);
      fine = leb→le (down e) (2 ^ 1074) (and_r (a && b) c t3);
      finite = ltb→lt (suc m * up e) (2 ^ 1024 * down e) (and_r (a && b && c) d t);
    }

unique : (x : Float) (s : Bool) (m : ℕ) (e : ℤ) → T (fits binary64 x) → T (fits binary64 (fin s (suc m) e)) → HasValue x s (suc m * up e) (down e) → x ≡ fin s (suc m) e
unique nan s m e p q v = absurd v
unique (inf t) s m e p q v = absurd v
unique (fin t zero g) s m e p q v =
    let z : zero * up g * down e ≡ 0 = ap (λ (x : ℕ). x * down e) (zero-mul (up g)) ∙ zero-mul (down e) in
    absurd (lt_irrefl 0 (subst (λ (x : ℕ). 0 < x) (sym v.1 ∙ z) (mul-pos (mul-pos (zero-lt-suc m) (up_pos e)) (down_pos g))))
unique (fin t (suc n) g) s m e p q v =
    let left : suc n * up g * down e ≡ suc n * 2 ^ (over g + under e) =
    (λ i. suc n * up_is g i * down_is e i) ∙ mul_assoc (suc n) (2 ^ over g) (2 ^ under e) ∙ ap (λ (x : ℕ). suc n * x) (sym (pow-add 2 (over g) (under e))) in
    let right : suc m * up e * down g ≡ suc m * 2 ^ (over e + under g) =
    (λ i. suc m * up_is e i * down_is g i) ∙ mul_assoc (suc m) (2 ^ over e) (2 ^ under g) ∙ ap (λ (x : ℕ). suc m * x) (sym (pow-add 2 (over e) (under g))) in
    let r = odd_pow (suc n) (suc m) (over g + under e) (over e + under g) (fitting t n g p).odd_part (fitting s m e q).odd_part (sym left ∙ v.1 ∙ right) in
    λ i. fin (v.0 i) (r.0 i) (same_exponent g e r.1 i)

-- ---- a value of the format rounds to itself

deep : (e : ℤ) (l : ℕ) → down e ≤ 2 ^ l → under e ≤ l
deep e l h =
    on_bool (leb (under e) l) (leb-true (under e) l)
    (λ y. absurd (lt_irrefl (2 ^ l) (lt_of_lt_of_le (pow-lt (leb-false (under e) l y)) (subst (λ (x : ℕ). x ≤ 2 ^ l) (down_is e) h))))

-- in units of 2 ^ -l
module _ (m : ℕ) (e : ℤ) (l : ℕ) (h : under e ≤ l) where
  split : under e + (l - under e) ≡ l
  split = omega arith

  powers : m * 2 ^ over e * 2 ^ (l - under e) ≡ m * 2 ^ (over e + (l - under e))
  powers = mul_assoc m (2 ^ over e) (2 ^ (l - under e)) ∙ ap (λ (x : ℕ). m * x) (sym (pow-add 2 (over e) (l - under e)))

  units_same : m * up e * 2 ^ l ≡ m * 2 ^ (over e + (l - under e)) * down e
  units_same =
      let d : l ≡ (l - under e) + under e = omega arith in
      (λ i. m * up_is e i * 2 ^ d i)
      ∙ ap (λ (x : ℕ). m * 2 ^ over e * x) (pow-add 2 (l - under e) (under e))
      ∙ sym (mul_assoc (m * 2 ^ over e) (2 ^ (l - under e)) (2 ^ under e))
      ∙ (λ i. powers i * sym (down_is e) i)

  units_below : (b : ℕ) → m * up e < 2 ^ b * down e → m * 2 ^ (over e + (l - under e)) < 2 ^ (b + l)
  units_below b k =
      let f = mul-lt-mul_of_pos_right k (pow_pos (l - under e)) in
      let r : 2 ^ b * down e * 2 ^ (l - under e) ≡ 2 ^ (b + l) =
      ap (λ (x : ℕ). 2 ^ b * x * 2 ^ (l - under e)) (down_is e)
      ∙ mul_assoc (2 ^ b) (2 ^ under e) (2 ^ (l - under e))
      ∙ ap (λ (x : ℕ). 2 ^ b * x) (sym (pow-add 2 (under e) (l - under e)) ∙ ap (λ (x : ℕ). 2 ^ x) split)
      ∙ sym (pow-add 2 b l) in
      subst (λ (x : ℕ). m * 2 ^ (over e + (l - under e)) < x) r
      (subst (λ (x : ℕ). x < 2 ^ b * down e * 2 ^ (l - under e)) (ap (λ (x : ℕ). m * x * 2 ^ (l - under e)) (up_is e) ∙ powers) f)

two_up : (p : ℕ) → 0 < p → 2 * p ≡ 1 → ⊥
two_up p h e = omega arith

flat : (e : ℤ) → up e * down e ≡ 1 → e ≡ pos 0
flat (pos zero) h = refl
flat (pos (suc k)) h = absurd (two_up (2 ^ k) (pow_pos k) (sym (pow-succ' 2 k) ∙ sym (mul-one (2 ^ suc k)) ∙ h))
flat (negsuc k) h = absurd (two_up (2 ^ k) (pow_pos k) (sym (pow-succ' 2 k) ∙ sym (one-mul (2 ^ suc k)) ∙ h))

zero_exponent : (s : Bool) (e : ℤ) → T (fits binary64 (fin s zero e)) → e ≡ pos 0
unfolding fits
zero_exponent s e t = flat e (eqb→eq (up e * down e) 1 t)

zero_itself : (s : Bool) → round binary64 s 0 1 ≡ fin s 0 (pos 0)
unfolding round
zero_itself s = refl

itself : (s : Bool) (m : ℕ) (e : ℤ) → T (fits binary64 (fin s m e)) → round binary64 s (m * up e) (down e) ≡ fin s m e
itself s zero e t =
    let z = zero_exponent s e t in
    (λ i. round binary64 s (0 * up (z i)) (down (z i))) ∙ zero_itself s ∙ (λ i. fin s 0 (sym z i))
itself s (suc m) e t =
    let k = fitting s m e t in
    let d = deep e 1074 k.fine in
    unique (round binary64 s (suc m * up e) (down e)) s m e (round-fits binary64 s (suc m * up e) (down e)) t
    (round_exact binary64 s (suc m * up e) (down e) (suc m) (over e + (1074 - under e)) (down_pos e) k.short (units_below (suc m) e 1074 d 1024 k.finite)
    (units_same (suc m) e 1074 d))

-- ---- the three operations

less_zero : (x : Float) → T (fits binary64 x) → sub binary64 x (fin false 0 (pos 0)) ≡ x
unfolding sub add neg sum
less_zero nan t = refl
less_zero (inf s) t = refl
less_zero (fin true m e) t =
    let a : m * up e * 1 + 0 * 1 * down e ≡ m * up e = omega arith in
    let c : down e * 1 ≡ down e = omega arith in
    (λ i. round binary64 true (a i) (c i)) ∙ itself true m e t
less_zero (fin false m e) t =
    let a : m * up e * 1 - 0 * 1 * down e ≡ m * up e = omega arith in
    let c : down e * 1 ≡ down e = omega arith in
    let w : 0 * 1 * down e ≤ m * up e * 1 = omega arith in
    ap (λ (b : Bool). cond b (round binary64 true (0 * 1 * down e - m * up e * 1) (down e * 1)) (round binary64 false (m * up e * 1 - 0 * 1 * down e) (down e * 1)))
    (le-ltb (m * up e * 1) (0 * 1 * down e) w)
    ∙ (λ i. round binary64 false (a i) (c i))
    ∙ itself false m e t

times_one : (x : Float) → T (fits binary64 x) → mul binary64 (fin false 1 (pos 0)) x ≡ x
unfolding mul
times_one nan t = refl
times_one (inf true) t = refl
times_one (inf false) t = refl
times_one (fin s m e) t =
    let a : 1 * 1 * (m * up e) ≡ m * up e = omega arith in
    let c : 1 * down e ≡ down e = omega arith in
    (λ i. round binary64 (own s i) (a i) (c i)) ∙ itself s m e t
  where
    own : (s : Bool) → unlike false s ≡ s
    own true = refl
    own false = refl

over_one : (x : Float) → T (fits binary64 x) → div binary64 x (fin false 1 (pos 0)) ≡ x
unfolding div
over_one nan t = refl
over_one (inf true) t = refl
over_one (inf false) t = refl
over_one (fin s m e) t =
    let a : m * up e * 1 ≡ m * up e = omega arith in
    let c : 1 * 1 * down e ≡ down e = omega arith in
    (λ i. round binary64 (own s i) (a i) (c i)) ∙ itself s m e t
  where
    own : (s : Bool) → unlike s false ≡ s
    own true = refl
    own false = refl

zero_float : float 0 ≡ fin false 0 (pos 0)
unfolding of_int
zero_float = refl

one_float : float 1 ≡ fin false 1 (pos 0)
unfolding of_int
one_float = refl

one_is : one64 ≡ fin false 1 (pos 0)
unfolding of_bits
one_is = refl

pub one_way : (x : Float) → T (fits binary64 x) → ways_at x 1 ≡ x
one_way x t =
    (λ i. div binary64 (mul binary64 (one_is i) (sub binary64 x (zero_float i))) (one_float i))
    ∙ ap (λ (z : Float). div binary64 (mul binary64 (fin false 1 (pos 0)) z) (fin false 1 (pos 0))) (less_zero x t)
    ∙ ap (λ (z : Float). div binary64 z (fin false 1 (pos 0))) (times_one x t)
    ∙ over_one x t
