-- The grid of a request that fits: as many instants as samples, none falling, each from 0 to 2^31. A product and a quotient of finite values that are
-- not negative grow with what they are made of, so the instants rise; and between a power of two p and 2 × p the last one is at most
-- 2 × p × (2^30 / p), which is worked out for each p. Assumes nothing.
use Rattle.std.proofs.Common.{◌≡◌, ℕ, zero, suc, ◌+◌, ◌-◌, ◌*◌, ◌^◌, ◌<◌, ◌≤◌, Bool, true, false, cond, not, ◌&&◌, ◌||◌, T, eqb, ltb, leb, List, [], ◌∷◌, ◌++◌, length, take, drop, ℤ, sym, refl, ap, subst, le_trans, le_of_eq, le_of_suc-le-suc, not-suc-le-zero, le_of_lt, mul_assoc, mul_comm, mul-le-mul, mul-pos, mul_left_comm, arith, eqb→eq, ltb→lt, pow_pos, pow_mono, ne_eqb, le-leb, leb-false, leb-true}
use native.Mathlib.Nat.{mul-mul-mul_comm}
use lib.Ieee.{Float, nan, inf, fin, Format, binary64, up, down, prec, low, emax, odd, units, round, mul, div, lt, le, eq, is_nan, of_int, of_bits}
use lib.Ieee.Fits.{and_l, and_r}
use lib.Ieee.Order as Rounding
use lib.Ieee.Order.{round_mono}
use lib.Ieee.Positive.{num, den, den_pos, positive, own_value, value_pos, between}
use Rattle.net.specs.Net.{zero64}
use Rattle.rules.specs.Propensity.{float}
use Rattle.rules.specs.Shown.{rising, instants_fit}
use Rattle.rules.proofs.Order as Order
use Rattle.averages.specs.Front.{by_number}
use Rattle.averages.specs.Request.{Request, samples_fit, horizon_fits, interval, instant, instants_from, grid}

-- ---- the lists

pub instants_from_length : (w : Float) (i k : ℕ) → length (instants_from w i k) ≡ k
instants_from_length w i zero = refl
instants_from_length w i (suc k) = ap suc (instants_from_length w (suc i) k)

pub grid_length : (q : Request) → length (grid q) ≡ q.samples
grid_length q = instants_from_length (interval q.samples q.horizon) 0 q.samples

pub by_number_instants : (w : Float) (i k : ℕ) (xs : List Float) → k ≤ length xs → by_number (instant w) i k xs ≡ instants_from w i k ++ drop k xs
by_number_instants w i zero xs h = refl
by_number_instants w i (suc k) [] h = absurd (not-suc-le-zero h)
by_number_instants w i (suc k) (x ∷ xs) h = ap (λ (l : List Float). instant w i ∷ l) (by_number_instants w (suc i) k xs (le_of_suc-le-suc h))

pub take_instants : (w : Float) (i k : ℕ) (xs : List Float) → k ≤ length xs → take k (by_number (instant w) i k xs) ≡ instants_from w i k
take_instants w i zero xs h = refl
take_instants w i (suc k) [] h = absurd (not-suc-le-zero h)
take_instants w i (suc k) (x ∷ xs) h = ap (λ (l : List Float). instant w i ∷ l) (take_instants w (suc i) k xs (le_of_suc-le-suc h))

-- ---- tests

held : {b : Bool} → b ≡ true → T b
held e = subst T (sym e) tt

true_of : (b : Bool) → T b → b ≡ true
true_of true t = refl
true_of false t = absurd t

-- ---- finite and not negative

abbrev plain : Float → Bool
plain nan = false
plain (inf s) = false
plain (fin true m e) = false
plain (fin false m e) = true

-- not negative, an infinity included
abbrev side : Float → Bool
side nan = false
side (inf s) = not s
side (fin s m e) = not s

odd_side : (d q k l : ℕ) → T (side (odd d false q k l))
unfolding odd
odd_side d zero k l = tt
odd_side d (suc q) k l = tt

units_side : (f : Format) (q k : ℕ) → T (side (units f false q k))
unfolding units
units_side f q k = go (ltb (q * 2 ^ k) (2 ^ (low f + suc (emax f))))
  where
    go : (b : Bool) → T (side (cond b (odd (suc (prec f)) false q k (low f)) (inf false)))
    go true = odd_side (suc (prec f)) q k (low f)
    go false = tt

round_side : (f : Format) (a c : ℕ) → T (side (round f false a c))
unfolding round
round_side f a c = units_side f (Rounding.kept (prec f) (a * 2 ^ low f) c) (Rounding.drop (prec f) (a * 2 ^ low f) c)

plain_under : (x y : Float) → T (side x) → T (plain y) → T (le x y) → T (plain x)
unfolding le lt eq
plain_under nan y s p h = absurd s
plain_under (inf true) y s p h = absurd s
plain_under (inf false) nan s p h = absurd p
plain_under (inf false) (inf t) s p h = absurd p
plain_under (inf false) (fin t n d) s p h = absurd h
plain_under (fin true m e) y s p h = absurd s
plain_under (fin false m e) y s p h = tt

lt_or_eq : (a b : ℕ) → T (ltb a b || (eqb a b && true)) → a ≤ b
lt_or_eq a b t = go (ltb a b) refl t
  where
    go : (c : Bool) → ltb a b ≡ c → T (c || (eqb a b && true)) → a ≤ b
    go true e t = le_of_lt (ltb→lt a b (held e))
    go false e t = le_of_eq (eqb→eq a b (and_l (eqb a b) true t))

-- the order is that of the fractions
cross_of_le : (x y : Float) → T (plain x) → T (plain y) → T (le x y) → num x * den y ≤ num y * den x
unfolding le lt eq
cross_of_le nan y p q h = absurd p
cross_of_le (inf s) y p q h = absurd p
cross_of_le (fin true m e) y p q h = absurd p
cross_of_le (fin false m e) nan p q h = absurd q
cross_of_le (fin false m e) (inf t) p q h = absurd q
cross_of_le (fin false m e) (fin true n d) p q h = absurd q
cross_of_le (fin false m e) (fin false n d) p q h = lt_or_eq (m * up e * down d) (n * up d * down e) h

mul_plain : (f : Format) (x y : Float) → T (plain x) → T (plain y) → mul f x y ≡ round f false (num x * num y) (den x * den y)
unfolding mul
mul_plain f nan y p q = absurd p
mul_plain f (inf s) y p q = absurd p
mul_plain f (fin true m e) y p q = absurd p
mul_plain f (fin false m e) nan p q = absurd q
mul_plain f (fin false m e) (inf t) p q = absurd q
mul_plain f (fin false m e) (fin true n d) p q = absurd q
mul_plain f (fin false m e) (fin false n d) p q = refl

mul_grows : (f : Format) (x x' y y' : Float) → T (plain x) → T (plain x') → T (plain y) → T (plain y') → T (le x x') → T (le y y')
    → T (le (mul f x y) (mul f x' y'))
mul_grows f x x' y y' p p' q q' h k =
    subst (λ (z : Float). T (le z (mul f x' y'))) (sym (mul_plain f x y p q))
    (subst (λ (z : Float). T (le (round f false (num x * num y) (den x * den y)) z)) (sym (mul_plain f x' y' p' q'))
    (round_mono f (num x * num y) (den x * den y) (num x' * num y') (den x' * den y') (mul-pos (den_pos x) (den_pos y)) (mul-pos (den_pos x') (den_pos y'))
    (le_trans (le_of_eq (mul-mul-mul_comm (num x) (num y) (den x') (den y')))
    (le_trans (mul-le-mul (cross_of_le x x' p p' h) (cross_of_le y y' q q' k)) (le_of_eq (mul-mul-mul_comm (num x') (den x) (num y') (den y)))))))

-- over a divisor above 0
not_none : (n : ℕ) → T (ltb 0 n) → eqb n 0 ≡ false
not_none n t = let h : 0 < n = ltb→lt 0 n t in ne_eqb n 0 (λ e. omega arith)

div_plain : (f : Format) (x y : Float) → T (plain x) → T (positive y) → div f x y ≡ round f false (num x * den y) (num y * den x)
unfolding div
div_plain f nan y p q = absurd p
div_plain f (inf s) y p q = absurd p
div_plain f (fin true m e) y p q = absurd p
div_plain f (fin false m e) nan p q = absurd q
div_plain f (fin false m e) (inf t) p q = absurd q
div_plain f (fin false m e) (fin true n d) p q = absurd q
div_plain f (fin false m e) (fin false n d) p q =
    ap (λ (b : Bool). cond b (cond (eqb m 0) nan (inf false)) (round f false (m * up e * down d) (n * up d * down e))) (not_none n q)

plain_of_positive : (x : Float) → T (positive x) → T (plain x)
plain_of_positive nan p = absurd p
plain_of_positive (inf s) p = absurd p
plain_of_positive (fin true m e) p = absurd p
plain_of_positive (fin false m e) p = tt

num_above : (x : Float) → T (positive x) → 0 < num x
num_above x p = value_pos x (num x) (den x) p (den_pos x) (own_value x p)

-- x / y ≤ x' / y' for x ≤ x' and y' ≤ y
div_cross : (a c a' c' b d b' d' : ℕ) → a * c' ≤ a' * c → b' * d ≤ b * d' → a * d * (b' * c') ≤ a' * d' * (b * c)
div_cross a c a' c' b d b' d' h k =
    let l : a * d * (b' * c') ≡ a * c' * (b' * d) = simp (mul_assoc, mul_comm, mul_left_comm) in
    let r : a' * c * (b * d') ≡ a' * d' * (b * c) = simp (mul_assoc, mul_comm, mul_left_comm) in
    le_trans (le_of_eq l) (le_trans (mul-le-mul h k) (le_of_eq r))

div_grows : (f : Format) (x x' y y' : Float) → T (plain x) → T (plain x') → T (positive y) → T (positive y') → T (le x x') → T (le y' y)
    → T (le (div f x y) (div f x' y'))
div_grows f x x' y y' p p' q q' h k =
    subst (λ (z : Float). T (le z (div f x' y'))) (sym (div_plain f x y p q))
    (subst (λ (z : Float). T (le (round f false (num x * den y) (num y * den x)) z)) (sym (div_plain f x' y' p' q'))
    (round_mono f (num x * den y) (num y * den x) (num x' * den y') (num y' * den x') (mul-pos (num_above y q) (den_pos x)) (mul-pos (num_above y' q') (den_pos x'))
    (div_cross (num x) (den x) (num x') (den x') (num y) (den y) (num y') (den y') (cross_of_le x x' p p' h)
    (cross_of_le y' y (plain_of_positive y' q') (plain_of_positive y q) k))))

-- ---- whole numbers

float_grows : (m n : ℕ) → m ≤ n → T (le (float m) (float n))
unfolding of_int
float_grows m n h = round_mono binary64 m 1 n 1 (omega arith) (omega arith) (omega arith)

float_side : (n : ℕ) → T (side (float n))
unfolding of_int
float_side n = round_side binary64 n 1

first_plain : T (positive (float 1))
unfolding of_int
first_plain = tt

last_plain : T (positive (float 1024))
unfolding of_int
last_plain = tt

float_plain : (n : ℕ) → n ≤ 1024 → T (plain (float n))
float_plain n h = plain_under (float n) (float 1024) (float_side n) (plain_of_positive (float 1024) last_plain) (float_grows n 1024 h)

float_positive : (n : ℕ) → 1 ≤ n → n ≤ 1024 → T (positive (float n))
float_positive n l h = between (float 1) (float n) (float 1024) first_plain last_plain (float_grows 1 n l) (float_grows n 1024 h)

-- ---- the horizon

-- 2^30, and the most that an instant may be
abbrev most : Float
most = of_bits binary64 0x41D0_0000_0000_0000

abbrev limit : Float
limit = of_bits binary64 0x41E0_0000_0000_0000

horizon_plain : (h : Float) → T (lt zero64 h) → T (le h most) → T (plain h)
unfolding lt le eq of_bits
horizon_plain nan a b = absurd a
horizon_plain (inf true) a b = absurd a
horizon_plain (inf false) a b = absurd b
horizon_plain (fin true m e) a b = absurd a
horizon_plain (fin false m e) a b = tt

-- ---- the last instant

most_plain : T (plain most)
unfolding of_bits
most_plain = tt

-- 2 × p × (2^30 / p), for p = 2^j
within : ℕ → Bool
within j = plain (div binary64 most (float (2 ^ j))) && le (mul binary64 (float (2 ^ suc j)) (div binary64 most (float (2 ^ j)))) limit

within_all : ℕ → Bool
within_all zero = within 0
within_all (suc j) = within (suc j) && within_all j

all_within : T (within_all 9)
unfolding within_all within of_bits of_int div mul le
all_within = tt

whole_plain : T (plain (div binary64 most (float 1)))
unfolding of_bits of_int div
whole_plain = tt

all_three : {a b c : Bool} → a ≡ true → b ≡ true → c ≡ true → a && b && c ≡ true
all_three e f g = simp (e, f, g)

zero_rounds : round binary64 false 0 1 ≡ zero64
unfolding round of_bits
zero_rounds = refl

zero_le : (a c : ℕ) → 0 < c → T (le zero64 (round binary64 false a c))
zero_le a c h = subst (λ (z : Float). T (le z (round binary64 false a c))) zero_rounds (round_mono binary64 0 1 a c (omega arith) h (omega arith))

not_nan : (m : ℕ) (e : ℤ) → is_nan (fin false m e) ≡ false
unfolding is_nan
not_nan m e = refl

plain_same : (x : Float) → T (plain x) → T (le x x)
plain_same nan p = absurd p
plain_same (inf s) p = absurd p
plain_same (fin true m e) p = absurd p
plain_same (fin false m e) p = held (Order.le_refl (fin false m e) (not_nan m e))

module _ (h : Float) (p : T (plain h)) (small : T (le h most)) (d : ℕ) (some : 1 ≤ d) (few : d ≤ 1023) where
  abbrev width : Float
  width = div binary64 h (float d)

  width_le : (b : ℕ) → 1 ≤ b → b ≤ d → T (le width (div binary64 most (float b)))
  width_le b l r =
      div_grows binary64 h most (float d) (float b) p most_plain (float_positive d some (omega arith)) (float_positive b l (omega arith)) small (float_grows b d r)

  width_side : T (side width)
  width_side = subst (λ (z : Float). T (side z)) (sym (div_plain binary64 h (float d) p (float_positive d some (omega arith)))) (round_side binary64 (num h * den (float d)) (num (float d) * den h))

  width_plain : T (plain width)
  width_plain = plain_under width (div binary64 most (float 1)) width_side whole_plain (width_le 1 (omega arith) some)

  -- between p = 2^j and 2 × p
  at_power : (j i : ℕ) → T (within j) → j ≤ 9 → 2 ^ j ≤ d → i ≤ 2 ^ suc j → T (le (instant width i) limit)
  unfolding within
  at_power j i t l a b =
      let n : suc j ≤ 10 = omega arith in
      let up : 2 ^ suc j ≤ 1024 = pow_mono n in
      let c : T (plain (div binary64 most (float (2 ^ j)))) = and_l (plain (div binary64 most (float (2 ^ j)))) _ t in
      let m =
      mul_grows binary64 (float i) (float (2 ^ suc j)) width (div binary64 most (float (2 ^ j))) (float_plain i (omega arith)) (float_plain (2 ^ suc j) up) width_plain c
      (float_grows i (2 ^ suc j) b) (width_le (2 ^ j) (pow_pos j) a) in
      held (Order.le_trans (instant width i) (mul binary64 (float (2 ^ suc j)) (div binary64 most (float (2 ^ j)))) limit (true_of _ m)
      (true_of _ (and_r (plain (div binary64 most (float (2 ^ j)))) _ t)))

  bounded : (j i : ℕ) → T (within_all j) → j ≤ 9 → d ≤ 2 ^ suc j → i ≤ d → T (le (instant width i) limit)
  unfolding within_all
  bounded zero i t l b r = at_power zero i t l (omega arith) (omega arith)
  bounded (suc j) i t l b r =
      go (leb (2 ^ suc j) d) refl (λ (m : d ≤ 2 ^ suc j). bounded j i (and_r (within (suc j)) (within_all j) t) (omega arith) m r)
    where
      go : (c : Bool) → leb (2 ^ suc j) d ≡ c → (d ≤ 2 ^ suc j → T (le (instant width i) limit)) → T (le (instant width i) limit)
      go true e f = at_power (suc j) i (and_l (within (suc j)) (within_all j) t) l (leb-true (2 ^ suc j) d e) (omega arith)
      go false e f = f (le_of_lt (leb-false (2 ^ suc j) d e))

  instant_le : (i : ℕ) → i ≤ d → T (le (instant width i) limit)
  instant_le i r = bounded 9 i all_within (omega arith) (omega arith) r

  instant_grows : (i : ℕ) → i ≤ d → T (le (instant width i) (instant width (suc i)))
  instant_grows i r =
      mul_grows binary64 (float i) (float (suc i)) width width (float_plain i (omega arith)) (float_plain (suc i) (omega arith)) width_plain width_plain
      (float_grows i (suc i) (omega arith)) (plain_same width width_plain)

  rises : (k i : ℕ) (start : Float) → i + k ≤ suc d → T (le start (instant width i)) → rising start (instants_from width i k) ≡ true
  rises zero i start b l = refl
  rises (suc k) i start b l =
      let r : i ≤ d = omega arith in
      all_three (true_of (le start (instant width i)) l) (true_of (le (instant width i) limit) (instant_le i r)) (rises k (suc i) (instant width i) (omega arith) (instant_grows i r))

  zero_first : T (le zero64 (instant width 0))
  zero_first =
      subst (λ (z : Float). T (le zero64 z)) (sym (mul_plain binary64 (float 0) width (float_plain 0 (omega arith)) width_plain))
      (zero_le (num (float 0) * num width) (den (float 0) * den width) (mul-pos (den_pos (float 0)) (den_pos width)))

  from_zero : rising zero64 (instants_from width 0 (suc d)) ≡ true
  from_zero = rises (suc d) 0 zero64 (omega arith) zero_first

-- ---- the grid

fits_samples : (n : ℕ) → samples_fit n ≡ true → (2 ≤ n) × (n ≤ 1024)
fits_samples n e =
    let b = Order.both (leb 2 n) (leb n 1024) e in
    (leb-true 2 n b.0, leb-true n 1024 b.1)

module _ (q : Request) (s : samples_fit q.samples ≡ true) (r : horizon_fits q.horizon ≡ true) where
  pub grid_rising : rising zero64 (grid q) ≡ true
  grid_rising =
      let n = fits_samples q.samples s in
      let b = Order.both (lt zero64 q.horizon) (le q.horizon most) r in
      let e : suc (q.samples - 1) ≡ q.samples = omega arith in
      subst (λ (k : ℕ). rising zero64 (instants_from (interval q.samples q.horizon) 0 k) ≡ true) e
      (from_zero q.horizon (horizon_plain q.horizon (held b.0) (held b.1)) (held b.1) (q.samples - 1) (omega arith) (omega arith))

  pub grid_some : 1 ≤ length (grid q)
  grid_some = let n = fits_samples q.samples s in omega (arith, grid_length q)

  pub grid_few : length (grid q) ≤ 1024
  grid_few = let n = fits_samples q.samples s in omega (arith, grid_length q)

  pub grid_fits : instants_fit (grid q) ≡ true
  grid_fits = all_three (le-leb 1 (length (grid q)) grid_some) (le-leb (length (grid q)) 1024 grid_few) grid_rising
