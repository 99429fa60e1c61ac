-- Values of binary64 as whole numbers of units. A value that fits is m * 2 ^ j units with m below 2 ^ 53, so beside q * 2 ^ k, q of 53 digits, there is no
-- other value nearer than one step of 2 ^ k, but below 2 ^ 52 * 2 ^ k. Where the root is not below that and lies between the midpoints of the steps,
-- q * 2 ^ k is nearest. Assumes nothing.
use Rattle.std.proofs.Common.{◌≡◌, ℕ, zero, suc, ◌+◌, ◌-◌, ◌*◌, ◌%◌, ◌^◌, ◌<◌, ◌≤◌, Bool, true, false, not, ◌&&◌, T, eqb, ltb, leb, ◌⊎◌, ℤ, pos, negsuc, sym, refl, ap, ◌∙◌, subst, inl, inr, true≢false, le_trans, le_of_eq, lt_of_lt_of_le, le_of_suc-le-suc, lt_of_le_of_lt, le_of_lt, lt_irrefl, mul-le-mul_right, mul_assoc, mul_comm, add-mul, mul-le-mul, lt_of_mul-lt-mul_right, eq-or-lt_of_le, mul-le-mul_left, mul-lt-mul_of_pos_right, one-mul, pow-suc, lt_of_not-le, zero-mul, mul-one, arith, ltb→lt, leb→le, pow_pos, pow_mono, pow-add, shl_lt}
use native.Mathlib.Nat.{mul-mul-mul_comm, eq_of_mul-eq-mul_right}
use lib.Dec.{nleb→lt}
use lib.Pow.{pow-lt}
use lib.Ieee.{Float, nan, inf, fin, binary64, up, down, fits}
use lib.Ieee.Exact.{HasValue}
use lib.Ieee.Fits.{down_pos, and_l, and_r}
use Rattle.root.specs.Nearest.{InUnits, NearestRoot}
use Rattle.root.proofs.Squares.{twice_square}

-- how many units a value is
pub count : (x : Float) (a b : ℕ) → HasValue x false a (2 ^ 1074) → HasValue x false b (2 ^ 1074) → a ≡ b
count nan a b h k = absurd h
count (inf s) a b h k = absurd h
count (fin s m e) a b h k = eq_of_mul-eq-mul_right (down e) (down_pos e) a b (sym h.1 ∙ k.1)

-- ---- m * 2 ^ e is m * 2 ^ j units

pow_back : (a l : ℕ) → 2 ^ a ≤ 2 ^ l → a ≤ l
pow_back a l h = le_of_suc-le-suc (lt_of_not-le (λ (g : suc l ≤ a). lt_irrefl (2 ^ l) (lt_of_lt_of_le (pow-lt g) h)))

pow_back_lt : (a l : ℕ) → 2 ^ a < 2 ^ l → a < l
pow_back_lt a l h = lt_of_not-le (λ (g : l ≤ a). lt_irrefl (2 ^ l) (lt_of_le_of_lt (pow_mono g) h))

place : (e : ℤ) → down e ≤ 2 ^ 1074 → (j : ℕ) × (up e * 2 ^ 1074 ≡ 2 ^ j * down e)
place (pos a) h = (a + 1074, sym (pow-add 2 a 1074) ∙ sym (mul-one (2 ^ (a + 1074))))
place (negsuc a) h =
    let l : suc a ≤ 1074 = pow_back (suc a) 1074 h in
    let s : 1074 ≡ 1074 - suc a + suc a = omega arith in
    (1074 - suc a, one-mul (2 ^ 1074) ∙ ap (λ (x : ℕ). 2 ^ x) s ∙ pow-add 2 (1074 - suc a) (suc a))

-- what `fits` says of a value that is not zero
record Fitting (m : ℕ) (e : ℤ) : Type 0 where
  few : suc m < 2 ^ 53
  fine : down e ≤ 2 ^ 1074
  far : suc m * up e < 2 ^ 1024 * down e

fitting : (m : ℕ) (e : ℤ) (s : Bool) → T (fits binary64 (fin s (suc m) e)) → Fitting m e
unfolding fits
fitting m e s h =
    let A = eqb (suc m % 2) 1 in
    let B = ltb (suc m) (2 ^ 53) in
    let C = leb (down e) (2 ^ 1074) in
    let D = ltb (suc m * up e) (2 ^ 1024 * down e) in
    record {
      few = ltb→lt (suc m) (2 ^ 53) (and_r A B (and_l (A && B) C (and_l (A && B && C) D h)));
      fine = leb→le (down e) (2 ^ 1074) (and_r (A && B) C (and_l (A && B && C) D h));
      far = ltb→lt (suc m * up e) (2 ^ 1024 * down e) (and_r (A && B && C) D h);
    }

-- n is m * 2 ^ j, m of at most 53 digits
pub record Short (n : ℕ) : Type 0 where
  pub m : ℕ
  pub j : ℕ
  pub few : m < 2 ^ 53
  pub near : j < 2098
  pub is : n ≡ m * 2 ^ j

placed : (m u t j d : ℕ) → u * t ≡ j * d → m * u * t ≡ m * j * d
placed m u t j d h = mul_assoc m u t ∙ ap (λ (x : ℕ). m * x) h ∙ sym (mul_assoc m j d)

not_far : (m u d a b j : ℕ) → 0 < d → 0 < b → m * u < a * d → m * u * b ≡ m * j * d → m * j < a * b
not_far m u d a b j p p' h e =
    lt_of_mul-lt-mul_right d
    (lt_of_le_of_lt (le_of_eq (sym e)) (lt_of_lt_of_le (mul-lt-mul_of_pos_right h p') (le_of_eq (mul_assoc a d b ∙ ap (λ (x : ℕ). a * x) (mul_comm d b) ∙ sym (mul_assoc a b d)))))

-- the units of a value above zero
pub units : (m : ℕ) (e : ℤ) → T (fits binary64 (fin false (suc m) e)) → (n : ℕ) × InUnits (fin false (suc m) e) n × Short n
units m e h =
    let f = fitting m e false h in
    let l = place e f.fine in
    let j = l.0 in
    let v : suc m * up e * 2 ^ 1074 ≡ suc m * 2 ^ j * down e = placed (suc m) (up e) (2 ^ 1074) (2 ^ j) (down e) l.1 in
    let b : suc m * 2 ^ j < 2 ^ 1024 * 2 ^ 1074 = not_far (suc m) (up e) (down e) (2 ^ 1024) (2 ^ 1074) (2 ^ j) (down_pos e) (pow_pos 1074) f.far v in
    let o : 1 * 2 ^ j ≤ suc m * 2 ^ j = mul-le-mul_right (2 ^ j) (omega arith) in
    let near : j < 2098 = pow_back_lt j 2098 (lt_of_le_of_lt (le_of_eq (sym (one-mul (2 ^ j)))) (lt_of_le_of_lt o (lt_of_lt_of_le b (le_of_eq (sym (pow-add 2 1024 1074)))))) in
    (suc m * 2 ^ j, record { held = h; value = (refl, v) }, record { m = suc m; j = j; few = f.few; near = near; is = refl })

-- every value is so short
pub short : (s : Float) (p : ℕ) → InUnits s p → Short p
short nan p u = absurd u.value
short (inf s) p u = absurd u.value
short (fin true m e) p u = absurd (true≢false u.value.0)
short (fin false zero e) p u =
    let z : 0 * up e * 2 ^ 1074 ≡ 0 * down e = ap (λ (x : ℕ). x * 2 ^ 1074) (zero-mul (up e)) ∙ zero-mul (2 ^ 1074) ∙ sym (zero-mul (down e)) in
    record { m = 0; j = 0; few = omega arith; near = omega arith; is = count (fin false zero e) p 0 u.value (refl, z) }
short (fin false (suc m) e) p u =
    let t = units m e u.held in
    subst Short (count (fin false (suc m) e) t.0 p t.1.value u.value) t.2

-- ---- beside q * 2 ^ k

pub four_pow : (k : ℕ) → 4 ^ k ≡ 2 ^ (2 * k)
four_pow zero = refl
four_pow (suc k) = pow-suc 4 k ∙ ap (λ (x : ℕ). x * 4) (four_pow k) ∙ sym (pow-add 2 (2 * k) 2) ∙ ap (λ (x : ℕ). 2 ^ x) (omega arith)

squared : (a k : ℕ) → a * 2 ^ k * (a * 2 ^ k) ≡ a * a * 4 ^ k
squared a k =
    let t : k + k ≡ 2 * k = omega arith in
    mul-mul-mul_comm a (2 ^ k) a (2 ^ k) ∙ ap (λ (x : ℕ). a * a * x) (sym (pow-add 2 k k) ∙ ap (λ (x : ℕ). 2 ^ x) t ∙ sym (four_pow k))

-- a value is a whole number of steps of 2 ^ k, or lies below 2 ^ 52 of them
steps : (k p : ℕ) → Short p → ((c : ℕ) × (p ≡ c * 2 ^ k)) ⊎ (p < 2 ^ 52 * 2 ^ k)
steps k p h = go (leb k h.j) (leb→le k h.j) (nleb→lt k h.j)
  where
    go : (b : Bool) → (T b → k ≤ h.j) → (T (not b) → h.j < k) → ((c : ℕ) × (p ≡ c * 2 ^ k)) ⊎ (p < 2 ^ 52 * 2 ^ k)
    go true f g =
        let l = f tt in
        let e : h.j ≡ h.j - k + k = omega arith in
        inl (h.m * 2 ^ (h.j - k), h.is ∙ ap (λ (x : ℕ). h.m * x) (ap (λ (x : ℕ). 2 ^ x) e ∙ pow-add 2 (h.j - k) k) ∙ sym (mul_assoc h.m (2 ^ (h.j - k)) (2 ^ k)))
    go false f g =
        let l = g tt in
        inr (lt_of_le_of_lt (le_of_eq h.is) (lt_of_lt_of_le (shl_lt 53 h.j h.few) (le_trans (pow_mono {i = 53 + h.j} {j = 52 + k} (omega arith)) (le_of_eq (pow-add 2 52 k)))))

-- The root of n lies between the midpoints beside q steps of 2 ^ k, and not below 2 ^ 52 steps.
pub record Between (n q k : ℕ) : Type 0 where
  pub long : 2 ^ 52 ≤ q
  pub least : 2 ^ 104 * 4 ^ k ≤ n
  pub above : (2 * q - 1) * (2 * q - 1) * 4 ^ k < 4 * n
  pub under : 4 * n < (2 * q + 1) * (2 * q + 1) * 4 ^ k

twice : (p t : ℕ) → p < t → (p + t) * (p + t) < 4 * (t * t)
twice p t l =
    let h : p + t < 2 * t = omega arith in
    lt_of_le_of_lt (mul-le-mul_left (p + t) (le_of_lt h)) (lt_of_lt_of_le (mul-lt-mul_of_pos_right h (omega arith)) (le_of_eq (twice_square t)))

module _ (n q k p : ℕ) (b : Between n q k) (v : Short p) where
  -- a midpoint of no more than (2 * q - 1) half steps, or of no less than 2 * q + 1
  not_above : p + q * 2 ^ k ≤ (2 * q - 1) * 2 ^ k → (p + q * 2 ^ k) * (p + q * 2 ^ k) < 4 * n
  not_above h = lt_of_le_of_lt (le_trans (mul-le-mul h h) (le_of_eq (squared (2 * q - 1) k))) b.above

  not_under : (2 * q + 1) * 2 ^ k ≤ p + q * 2 ^ k → 4 * n < (p + q * 2 ^ k) * (p + q * 2 ^ k)
  not_under h = lt_of_lt_of_le b.under (le_trans (le_of_eq (sym (squared (2 * q + 1) k))) (mul-le-mul h h))

  -- the steps of both, together
  together : (c d : ℕ) → c * 2 ^ k + d * 2 ^ k ≡ (c + d) * 2 ^ k
  together c d = sym (add-mul c d (2 ^ k))

  lowest : 2 ^ 52 ≡ q → p < 2 ^ 52 * 2 ^ k → (p + q * 2 ^ k) * (p + q * 2 ^ k) < 4 * n
  lowest e l =
      let t = 2 ^ 52 * 2 ^ k in
      let w : (p + t) * (p + t) < 4 * n = lt_of_lt_of_le (twice p t l) (le_trans (le_of_eq (ap (λ (x : ℕ). 4 * x) (squared (2 ^ 52) k))) (mul-le-mul_left 4 b.least)) in
      subst (λ (x : ℕ). (p + x * 2 ^ k) * (p + x * 2 ^ k) < 4 * n) e w

  beside_above : p < q * 2 ^ k → (p + q * 2 ^ k) * (p + q * 2 ^ k) < 4 * n
  beside_above l = go (steps k p v) (eq-or-lt_of_le b.long)
    where
      go : ((c : ℕ) × (p ≡ c * 2 ^ k)) ⊎ (p < 2 ^ 52 * 2 ^ k) → (2 ^ 52 ≡ q) ⊎ (2 ^ 52 < q) → (p + q * 2 ^ k) * (p + q * 2 ^ k) < 4 * n
      go (inl (c, e)) f =
          let g : c < q = lt_of_mul-lt-mul_right (2 ^ k) (subst (λ (x : ℕ). x < q * 2 ^ k) e l) in
          not_above (le_trans (le_of_eq (ap (λ (x : ℕ). x + q * 2 ^ k) e ∙ together c q)) (mul-le-mul_right (2 ^ k) (omega arith)))
      go (inr h) (inl e) = lowest e h
      go (inr h) (inr g) =
          let w : p + q * 2 ^ k ≤ 2 ^ 52 * 2 ^ k + q * 2 ^ k = omega arith in
          not_above (le_trans w (le_trans (le_of_eq (together (2 ^ 52) q)) (mul-le-mul_right (2 ^ k) (omega arith))))

  beside_under : q * 2 ^ k < p → 4 * n < (p + q * 2 ^ k) * (p + q * 2 ^ k)
  beside_under l = go (steps k p v)
    where
      go : ((c : ℕ) × (p ≡ c * 2 ^ k)) ⊎ (p < 2 ^ 52 * 2 ^ k) → 4 * n < (p + q * 2 ^ k) * (p + q * 2 ^ k)
      go (inl (c, e)) =
          let g : q < c = lt_of_mul-lt-mul_right (2 ^ k) (subst (λ (x : ℕ). q * 2 ^ k < x) e l) in
          not_under (le_trans (mul-le-mul_right (2 ^ k) (omega arith)) (le_of_eq (sym (together c q) ∙ ap (λ (x : ℕ). x + q * 2 ^ k) (sym e))))
      go (inr h) = absurd (lt_irrefl p (lt_of_lt_of_le h (le_trans (mul-le-mul_right (2 ^ k) b.long) (le_of_lt l))))

-- and so of the values themselves
pub nearest_between : {x r : Float} {n q k : ℕ} → InUnits x n → InUnits r (q * 2 ^ k) → Between (n * 2 ^ 1074) q k → NearestRoot x r
nearest_between {x} {r} {n} {q} {k} u w b =
    record {
      n = n;
      q = q * 2 ^ k;
      of_x = u;
      of_r = w;
      above = λ (s : Float) (p : ℕ) (i : InUnits s p). beside_above (n * 2 ^ 1074) q k p b (short s p i);
      under = λ (s : Float) (p : ℕ) (i : InUnits s p). beside_under (n * 2 ^ 1074) q k p b (short s p i);
    }
