-- What `root_of` works out is the square root, at every value of binary64. A positive value is m * 2 ^ j units with m of at most 53 digits; m is moved up
-- to exactly 53, and `Scaled` has the rest. At any other value both sides are the same by definition. Assumes nothing.
use Rattle.std.proofs.Common.{◌≡◌, ℕ, zero, suc, ◌+◌, ◌-◌, ◌*◌, ◌^◌, ◌<◌, ◌≤◌, true, false, sym, refl, ap, ◌∙◌, subst, le_trans, le_of_eq, mul-le-mul_right, zero-lt-suc, mul_assoc, lt_of_not-le, zero-mul, arith, lt→ltb, pow_pos, pow-add, shl_lt}
use lib.Ieee.{Float, nan, inf, fin, size}
use lib.Ieee.Digits.{size-lt, size-le, size_reaches}
use lib.Ieee.Positive.{value_pos}
use Rattle.root.specs.Nearest.{InUnits, NearestRoot}
use Rattle.root.specs.Root.{root_of, root_in}
use Rattle.root.specs.Theorems.{RootIsNearest}
use Rattle.root.proofs.Units.{Short, units}
use Rattle.root.proofs.Patterns.{root_of_value}
use Rattle.root.proofs.Scaled.{nearest_in}

-- m moved up to 53 digits: m * 2 ^ z
record Aligned (m : ℕ) : Type 0 where
  z : ℕ
  few : z ≤ 53
  long : 2 ^ 52 ≤ m * 2 ^ z
  short : m * 2 ^ z < 2 ^ 53

aligned : (m : ℕ) → 0 < m → m < 2 ^ 53 → Aligned m
aligned m p l =
    let z = 53 - size m in
    let few : size m ≤ 53 = size-le m 53 l in
    let some : 0 < size m = lt_of_not-le (λ (h : size m ≤ 0). none m p h) in
    let e₁ : size m - 1 + z ≡ 52 = omega arith in
    let e₂ : size m + z ≡ 53 = omega arith in
    record {
      z = z;
      few = omega arith;
      long = le_trans (le_of_eq (ap (λ (x : ℕ). 2 ^ x) (sym e₁) ∙ pow-add 2 (size m - 1) z)) (mul-le-mul_right (2 ^ z) (size_reaches m (size m - 1) (omega arith)));
      short = subst (λ (x : ℕ). m * 2 ^ z < 2 ^ x) e₂ (shl_lt (size m) z (size-lt m));
    }
  where
    none : (m : ℕ) → 0 < m → size m ≤ 0 → ⊥
    none m p h = let l = size-lt m in let e : size m ≡ 0 = omega arith in let f : m < 2 ^ 0 = subst (λ (x : ℕ). m < 2 ^ x) e l in omega arith

module _ (x : Float) (n : ℕ) (u : InUnits x n) (p : 0 < n) (s : Short n) where
  some : 0 < s.m
  some = go s.m s.is
    where
      go : (m : ℕ) → n ≡ m * 2 ^ s.j → 0 < m
      go zero e = absurd (omega (arith, e, zero-mul (2 ^ s.j)))
      go (suc m) e = zero-lt-suc m

  scaled : (z : ℕ) → z ≤ 53 → n * 2 ^ 1074 ≡ s.m * 2 ^ z * 2 ^ (52 + (s.j + 1022 - z))
  scaled z l =
      let e : s.j + 1074 ≡ z + (52 + (s.j + 1022 - z)) = omega arith in
      ap (λ (y : ℕ). y * 2 ^ 1074) s.is
      ∙ mul_assoc s.m (2 ^ s.j) (2 ^ 1074)
      ∙ ap (λ (y : ℕ). s.m * y) (sym (pow-add 2 s.j 1074) ∙ ap (λ (y : ℕ). 2 ^ y) e ∙ pow-add 2 z (52 + (s.j + 1022 - z)))
      ∙ sym (mul_assoc s.m (2 ^ z) (2 ^ (52 + (s.j + 1022 - z))))

  nearest_root : NearestRoot x (root_of x)
  nearest_root =
      let v = aligned s.m some s.few in
      let e = scaled v.z v.few in
      subst (λ (r : Float). NearestRoot x r) (sym (root_of_value x n p u.value ∙ ap root_in e))
      (nearest_in (s.m * 2 ^ v.z) (s.j + 1022 - v.z) v.long v.short (omega arith) x n u e)

pub root_is_nearest : RootIsNearest
unfolding root_of
root_is_nearest nan f = refl
root_is_nearest (inf true) f = refl
root_is_nearest (inf false) f = refl
root_is_nearest (fin s zero e) f = refl
root_is_nearest (fin true (suc m) e) f = refl
root_is_nearest (fin false (suc m) e) f =
    let t = units m e f in
    nearest_root (fin false (suc m) e) t.0 t.1 (value_pos (fin false (suc m) e) t.0 (2 ^ 1074) (lt→ltb 0 (suc m) (zero-lt-suc m)) (pow_pos 1074) t.1.value) t.2
