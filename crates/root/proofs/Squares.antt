-- Squares of whole numbers. `whole_root` is the root cut to a whole number, by induction on the digits. Half of the root of 4 * n, rounded, is nearest to
-- the root of n: a tie would make the square of an odd number even. From the square of a guess it is seen whether it is nearest.
-- Assumes nothing.
use Rattle.std.proofs.Common.{◌≡◌, ℕ, zero, suc, ◌+◌, ◌-◌, ◌*◌, ◌/◌, ◌%◌, ◌^◌, ◌<◌, ◌≤◌, Bool, true, false, cond, not, T, leb, sym, ◌∙◌, subst, le_trans, lt_of_lt_of_le, le_of_suc-le-suc, lt_irrefl, mul_assoc, add-mul, mul-le-mul, le_antisymm, pow-suc, lt_of_not-le, mul-add, mul_left_comm, arith, leb→le}
use lib.Dec.{nleb→lt}
use Rattle.root.specs.Root.{whole_root}
use Rattle.root.specs.Whole.{NearestWhole}

-- r is the root of n cut to a whole number
pub record CutRoot (n r : ℕ) : Type 0 where
  pub low : r * r ≤ n
  pub high : n < (r + 1) * (r + 1)

pub twice_square : (r : ℕ) → 2 * r * (2 * r) ≡ 4 * (r * r)
twice_square r = simp (mul_assoc, mul_left_comm) (omega arith)

next_square : (r : ℕ) → (r + 1) * (r + 1) ≡ r * r + 2 * r + 1
next_square r = (mul-add (r + 1) r 1 ∙ (λ i. add-mul r 1 r i + (r + 1) * 1)) ∙ omega arith

pub root_and_rest : {n r d : ℕ} → r * r + d ≡ n → d ≤ 2 * r → CutRoot n r
root_and_rest {n} {r} {d} e h = record { low = omega arith; high = omega (arith, next_square r) }

turn : (n s : ℕ) (b : Bool) → CutRoot (n / 4) s → (T b → (2 * s + 1) * (2 * s + 1) ≤ n) → (T (not b) → n < (2 * s + 1) * (2 * s + 1))
    → CutRoot n (cond b (2 * s + 1) (2 * s))
turn n s true g fit over =
    record { low = fit tt; high = omega (arith, g.high, next_square (2 * s + 1), next_square (2 * s), twice_square s, next_square s) }
turn n s false g fit over = record { low = omega (arith, g.low, twice_square s); high = over tt }

pub whole_root_lem : (d n : ℕ) → n < 4 ^ d → CutRoot n (whole_root d n)
unfolding whole_root
whole_root_lem zero n h = record { low = omega arith; high = omega arith }
whole_root_lem (suc d) n h =
    let r = 2 * whole_root d (n / 4) in
    turn n (whole_root d (n / 4)) (leb ((r + 1) * (r + 1)) n)
    (whole_root_lem d (n / 4) (omega (arith, pow-suc 4 d))) (leb→le ((r + 1) * (r + 1)) n) (nleb→lt ((r + 1) * (r + 1)) n)

pub squares : (a b : ℕ) → a ≤ b → a * a ≤ b * b
squares a b h = mul-le-mul h h

half_even : (n h q : ℕ) → h ≡ 2 * q → 0 < q → CutRoot (4 * n) h → NearestWhole n q
half_even n h q e p g =
    let g' : CutRoot (4 * n) (2 * q) = subst (λ (x : ℕ). CutRoot (4 * n) x) e g in
    let s = next_square (2 * q - 1) in
    let t : 2 * q - 1 + 1 ≡ 2 * q = omega arith in
    let u : 2 * q * (2 * q) ≡ (2 * q - 1) * (2 * q - 1) + 2 * (2 * q - 1) + 1 = subst (λ (x : ℕ). x * x ≡ (2 * q - 1) * (2 * q - 1) + 2 * (2 * q - 1) + 1) t s in
    record { above = omega (arith, u, g'.low); under = g'.high }

-- the square of an odd number is odd
half_odd : (n h p : ℕ) → h ≡ 2 * p + 1 → CutRoot (4 * n) h → NearestWhole n (p + 1)
half_odd n h p e g =
    let g' : CutRoot (4 * n) (2 * p + 1) = subst (λ (x : ℕ). CutRoot (4 * n) x) e g in
    let t : 2 * (p + 1) - 1 ≡ 2 * p + 1 = omega arith in
    let odd : (2 * p + 1) * (2 * p + 1) ≡ 4 * (p * p) + 4 * p + 1 = omega (arith, next_square (2 * p), twice_square p) in
    record {
      above = subst (λ (x : ℕ). x * x < 4 * n) (sym t) (omega (arith, odd, g'.low));
      under = lt_of_lt_of_le g'.high (squares (2 * p + 1 + 1) (2 * (p + 1) + 1) (omega arith));
    }

-- half of the root of 4 * n, rounded, is nearest to the root of n
pub nearest_half : (n h : ℕ) → 0 < h → CutRoot (4 * n) h → NearestWhole n ((h + 1) / 2)
nearest_half n h p g = go (leb (h % 2) 0) (leb→le (h % 2) 0) (nleb→lt (h % 2) 0)
  where
    go : (b : Bool) → (T b → h % 2 ≤ 0) → (T (not b) → 0 < h % 2) → NearestWhole n ((h + 1) / 2)
    go true e o = let l = e tt in half_even n h ((h + 1) / 2) (omega arith) (omega arith) g
    go false e o =
        let l = o tt in
        let k : (h + 1) / 2 ≡ h / 2 + 1 = omega arith in
        subst (λ (x : ℕ). NearestWhole n x) (sym k) (half_odd n h (h / 2) (omega arith) g)

-- there is only one
near_below : {n p q : ℕ} → NearestWhole n p → NearestWhole n q → p ≤ q
near_below {n} {p} {q} a b = le_of_suc-le-suc (lt_of_not-le (λ (g : suc q ≤ p).
    lt_irrefl (4 * n) (lt_of_lt_of_le b.under (le_trans (squares (2 * q + 1) (2 * p - 1) (omega arith)) (omega (arith, a.above))))))

pub nearest_only : {n p q : ℕ} → NearestWhole n p → NearestWhole n q → p ≡ q
nearest_only a b = le_antisymm (near_below a b) (near_below b a)

-- by the square of q itself
pub near : (n q : ℕ) → 0 < q → q * q < n + q → n ≤ q * q + q → NearestWhole n q
near n q p g l =
    let t : 2 * q - 1 + 1 ≡ 2 * q = omega arith in
    let u : 2 * q * (2 * q) ≡ (2 * q - 1) * (2 * q - 1) + 2 * (2 * q - 1) + 1 = subst (λ (x : ℕ). x * x ≡ (2 * q - 1) * (2 * q - 1) + 2 * (2 * q - 1) + 1) t (next_square (2 * q - 1)) in
    record { above = omega (arith, u, twice_square q); under = omega (arith, next_square (2 * q), twice_square q) }

-- by its product with its successor: where the upper words of g * (g + 1) and n * 2 ^ 52 agree, the lower ones differ by as much as the numbers do
pub reached : (n g : ℕ) {low : ℕ} → low ≡ g * (g + 1) % 2 ^ 64 → g * (g + 1) / 2 ^ 64 ≡ n / 2 ^ 12
    → n * 2 ^ 52 % 2 ^ 64 ≤ low → low - n * 2 ^ 52 % 2 ^ 64 < 2 * g → NearestWhole (n * 2 ^ 52) g
reached n g e upper lower close =
    let s : g * (g + 1) ≡ g * g + g = mul-add g g 1 ∙ omega arith in
    near (n * 2 ^ 52) g (omega arith) (omega arith) (omega arith)

pub root_pos : {n r : ℕ} → CutRoot n r → 0 < n → 0 < r
root_pos {n} {r} g p = go r g
  where
    go : (r : ℕ) → CutRoot n r → 0 < r
    go zero g = absurd (omega (arith, g.high))
    go (suc r) g = omega arith
