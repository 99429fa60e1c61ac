-- `root_in` at m * 2 ^ (52 + v), m of 53 binary digits. Of 4 times that it drops a power of 4 and nothing else, and m * 2 ^ (54 + v % 2) is left. Half the root of
-- that, rounded, is the nearest whole root of a quarter of it. It has 53 digits, it is what the program finds, and it is nearest among the values too.
-- Assumes nothing.
use Rattle.std.proofs.Common.{◌≡◌, ℕ, zero, suc, ◌+◌, ◌-◌, ◌*◌, ◌/◌, ◌%◌, ◌^◌, ◌<◌, ◌≤◌, false, not, T, ◌⊎◌, sym, refl, ap, ◌∙◌, subst, inl, inr, le_trans, le_of_eq, lt_of_lt_of_le, lt_of_le_of_lt, mul-le-mul_right, mul_assoc, le_antisymm, mul-lt-mul_of_pos_right, lt_of_not-le, not-le_of_lt, mul-div_cancel, mul_left_comm, arith, pow_pos, pow_mono, pow-add, shl_lt}
use lib.Ieee.{Float, size, odd, binary64, of_bits, nan_bits}
use lib.Ieee.Exact.{odd_sign}
use lib.Ieee.Fits.{odd-fits}
use lib.Ieee.Digits.{size-le, size-lt}
use Rattle.root.specs.Root.{whole_root, root_in}
use Rattle.root.specs.Nearest.{InUnits, NearestRoot}
use Rattle.root.specs.Whole.{NearestWhole}
use Rattle.root.proofs.Squares.{CutRoot, whole_root_lem, squares, nearest_half, nearest_only}
use Rattle.root.proofs.Units.{four_pow, nearest_between}
use Rattle.root.proofs.Patterns.{made_bits, finite_number}

-- how many digits
size_is : (n z : ℕ) → 2 ^ z ≤ n → n < 2 ^ suc z → size n ≡ suc z
size_is n z g l = le_antisymm (size-le n (suc z) l)
    (lt_of_not-le (λ (h : size n ≤ z). not-le_of_lt (size-lt n) (le_trans (pow_mono h) g)))

quarter : (x y : ℕ) → 2 ^ 106 * x ≤ 4 * y → 2 ^ 104 * x ≤ y
quarter x y h = omega arith

pub parity : (v : ℕ) → (v % 2 ≡ 0) ⊎ (v % 2 ≡ 1)
parity v = go (v % 2) (omega arith)
  where
    go : (r : ℕ) → r < 2 → (r ≡ 0) ⊎ (r ≡ 1)
    go zero h = inl refl
    go (suc zero) h = inr refl
    go (suc (suc r)) h = absurd (omega arith)

module _ (m v : ℕ) (g : 2 ^ 52 ≤ m) (l : m < 2 ^ 53) where
  digits : size (m * 2 ^ (52 + v)) ≡ suc (52 + (52 + v))
  digits =
      size_is (m * 2 ^ (52 + v)) (52 + (52 + v))
      (le_trans (le_of_eq (pow-add 2 52 (52 + v))) (mul-le-mul_right (2 ^ (52 + v)) g))
      (subst (λ (x : ℕ). m * 2 ^ (52 + v) < 2 ^ x) (omega arith) (shl_lt 53 (52 + v) l))

  dropped : (size (m * 2 ^ (52 + v)) - 105) / 2 ≡ v / 2
  dropped = rw digits (omega arith)

  shift : 2 + (52 + v) ≡ 54 + v % 2 + 2 * (v / 2)
  shift = omega arith

  four_times : 4 * (m * 2 ^ (52 + v)) ≡ m * 2 ^ (54 + v % 2) * 4 ^ (v / 2)
  four_times =
      let k = v / 2 in
      mul_left_comm 4 m (2 ^ (52 + v))
      ∙ ap (λ (x : ℕ). m * x) (sym (pow-add 2 2 (52 + v)) ∙ ap (λ (x : ℕ). 2 ^ x) shift ∙ pow-add 2 (54 + v % 2) (2 * k))
      ∙ sym (mul_assoc m (2 ^ (54 + v % 2)) (2 ^ (2 * k)))
      ∙ ap (λ (x : ℕ). m * 2 ^ (54 + v % 2) * x) (sym (four_pow k))

  four_pos : 0 < 4 ^ (v / 2)
  four_pos = rw (four_pow (v / 2)) (pow_pos (2 * (v / 2)))

  kept : 4 * (m * 2 ^ (52 + v)) / 4 ^ (v / 2) ≡ m * 2 ^ (54 + v % 2)
  kept = ap (λ (x : ℕ). x / 4 ^ (v / 2)) four_times ∙ mul-div_cancel (m * 2 ^ (54 + v % 2)) four_pos

  root_in_is : root_in (m * 2 ^ (52 + v)) ≡ odd 53 false ((whole_root 54 (m * 2 ^ (54 + v % 2)) + 1) / 2) (v / 2) 1074
  unfolding root_in
  root_in_is =
      ap (λ (k : ℕ). odd 53 false ((whole_root 54 (4 * (m * 2 ^ (52 + v)) / 4 ^ k) + 1) / 2) k 1074) dropped
      ∙ ap (λ (x : ℕ). odd 53 false ((whole_root 54 x + 1) / 2) (v / 2) 1074) kept

  word : m * 2 ^ (v % 2) * 2 ^ 54 ≡ m * 2 ^ (54 + v % 2)
  word = go (parity v)
    where
      go : (v % 2 ≡ 0) ⊎ (v % 2 ≡ 1) → m * 2 ^ (v % 2) * 2 ^ 54 ≡ m * 2 ^ (54 + v % 2)
      go (inl e) = rw e (omega arith)
      go (inr e) = rw e (omega arith)

  range : (2 ^ 106 ≤ m * 2 ^ (54 + v % 2)) × (m * 2 ^ (54 + v % 2) + 2 ^ 55 ≤ 2 ^ 108)
  range = go (parity v)
    where
      go : (v % 2 ≡ 0) ⊎ (v % 2 ≡ 1) → (2 ^ 106 ≤ m * 2 ^ (54 + v % 2)) × (m * 2 ^ (54 + v % 2) + 2 ^ 55 ≤ 2 ^ 108)
      go (inl e) = rw e (omega arith, omega arith)
      go (inr e) = rw e (omega arith, omega arith)

  -- the root of that has 54 digits, and is not the largest number of 54 digits: so its half, rounded, has 53
  half_range : (h : ℕ) → CutRoot (m * 2 ^ (54 + v % 2)) h → (2 ^ 53 < h + 1) × (h + 1 < 2 ^ 54)
  half_range h r = (
    lt_of_not-le (λ (a : h + 1 ≤ 2 ^ 53). not-le_of_lt (lt_of_le_of_lt range.0 r.high) (squares (h + 1) (2 ^ 53) a)),
    lt_of_not-le (λ (a : 2 ^ 54 ≤ h + 1). omega (arith, range.1, squares (2 ^ 54 - 1) h (omega arith), r.low)),
  )

  -- what the program takes the root of
  pub word_range : (2 ^ 52 ≤ m * 2 ^ (v % 2)) × (m * 2 ^ (v % 2) < 2 ^ 54)
  word_range = (omega (arith, word, range.0), omega (arith, word, range.1))

  -- what the definition halves and rounds
  abbrev h : ℕ
  h = whole_root 54 (m * 2 ^ (54 + v % 2))

  is_root : CutRoot (m * 2 ^ (54 + v % 2)) h
  is_root = whole_root_lem 54 (m * 2 ^ (54 + v % 2)) (omega (arith, range.1))

  as_four : m * 2 ^ (54 + v % 2) ≡ 4 * (m * 2 ^ (v % 2) * 2 ^ 52)
  as_four = omega (arith, word)

  is_nearest : NearestWhole (m * 2 ^ (v % 2) * 2 ^ 52) ((h + 1) / 2)
  is_nearest = nearest_half (m * 2 ^ (v % 2) * 2 ^ 52) h (omega (arith, (half_range h is_root).0)) (subst (λ (x : ℕ). CutRoot x h) as_four is_root)

  -- what the definition gives is nearest
  pub nearest_in : (few : v < 3948) (x : Float) (n : ℕ) → InUnits x n → n * 2 ^ 1074 ≡ m * 2 ^ (52 + v) → NearestRoot x (root_in (m * 2 ^ (52 + v)))
  nearest_in few x n u e =
      let r = half_range h is_root in
      let k = v / 2 in
      let q = (h + 1) / 2 in
      let f : m * 2 ^ (54 + v % 2) * 4 ^ k ≡ 4 * (n * 2 ^ 1074) = sym four_times ∙ ap (λ (y : ℕ). 4 * y) (sym e) in
      let a : (2 * q - 1) * (2 * q - 1) < m * 2 ^ (54 + v % 2) = subst (λ (y : ℕ). (2 * q - 1) * (2 * q - 1) < y) (sym as_four) is_nearest.above in
      let b : m * 2 ^ (54 + v % 2) < (2 * q + 1) * (2 * q + 1) = subst (λ (y : ℕ). y < (2 * q + 1) * (2 * q + 1)) (sym as_four) is_nearest.under in
      let s : q < 2 ^ 53 = omega arith in
      let top : q * 2 ^ k < 2 ^ 2098 = lt_of_lt_of_le (shl_lt 53 k s) (pow_mono {i = 53 + k} {j = 2098} (omega arith)) in
      let made : InUnits (odd 53 false q k 1074) (q * 2 ^ k) =
      record { held = odd-fits binary64 53 false q k s (omega arith) top; value = odd_sign 53 false q k 1074 } in
      nearest_between u (subst (λ (y : Float). InUnits y (q * 2 ^ k)) (sym root_in_is) made)
      record {
        long = omega arith;
        least = quarter (4 ^ k) (n * 2 ^ 1074) (le_trans (mul-le-mul_right (4 ^ k) range.0) (le_of_eq f));
        above = subst (λ (y : ℕ). (2 * q - 1) * (2 * q - 1) * 4 ^ k < y) f (mul-lt-mul_of_pos_right a four_pos);
        under = subst (λ (y : ℕ). y < (2 * q + 1) * (2 * q + 1) * 4 ^ k) f (mul-lt-mul_of_pos_right b four_pos);
      }

  -- what the program makes of a nearest root
  module _ (few : v < 3068) (q : ℕ) (near : NearestWhole (m * 2 ^ (v % 2) * 2 ^ 52) q) where
    is_half : (h + 1) / 2 ≡ q
    is_half = nearest_only is_nearest near

    pub half_lt : q < 2 ^ 53
    half_lt = let r = half_range h is_root in let e = is_half in omega arith

    pub made : of_bits binary64 (v / 2 * 2 ^ 52 + q) ≡ root_in (m * 2 ^ (52 + v))
    made =
        let r = half_range h is_root in
        let e = is_half in
        made_bits (v / 2) q (omega arith) (omega arith) (omega arith)
        ∙ ap (λ (x : ℕ). odd 53 false x (v / 2) 1074) (sym e)
        ∙ sym root_in_is

    pub made_is_number : T (not (nan_bits binary64 (v / 2 * 2 ^ 52 + q)))
    made_is_number = let r = half_range h is_root in let e = is_half in finite_number (v / 2 * 2 ^ 52 + q) (omega arith)
