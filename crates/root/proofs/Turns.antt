-- A root, a binary digit a turn: what each turn keeps. Two digits of the number come down, and the root's next digit is 1 where the square of the longer root
-- still fits below them. Assumes nothing.
use Rattle.std.proofs.Common.{◌≡◌, ℕ, ◌+◌, ◌-◌, ◌*◌, ◌/◌, ◌%◌, ◌^◌, ◌<◌, ◌≤◌, sym, ap, ◌∙◌, lt_of_lt_of_le, mul_assoc, mul_comm, add-mul, pow-suc, mul-add, mul_left_comm, add-one, arith, pow_mono}

pub record Going (m rest root rem i : ℕ) : Type 0 where
  pub turns : i ≤ 54
  pub small : root < 2 ^ i
  pub left : rem ≤ root * 2
  pub word : rest < 2 ^ 64
  pub whole : m * 4 ^ i ≡ (root * root + rem) * 2 ^ 64 + rest

pub root_lt : {m rest root rem i : ℕ} → Going m rest root rem i → root < 2 ^ 54
root_lt g = lt_of_lt_of_le g.small (pow_mono g.turns)

-- a power, one more
up : (n i : ℕ) → n ^ (i + 1) ≡ n ^ i * n
up n i = ap (λ (k : ℕ). n ^ k) (add-one i) ∙ pow-suc n i

four_times : (m q : ℕ) → m * (q * 4) ≡ m * q * 4
four_times m q = sym (mul_assoc m q 4)

-- the next two digits come down
down : (A S rem rest : ℕ) → A ≡ (S + rem) * 2 ^ 64 + rest → A * 4 ≡ (S * 4 + (rem * 4 + rest / 2 ^ 62)) * 2 ^ 64 + (rest * 4) % 2 ^ 64
down A S rem rest e = omega arith

even_square : (r : ℕ) → r * 2 * (r * 2) ≡ r * r * 4
even_square r = simp (mul_assoc, mul_comm, mul_left_comm) (omega arith)

odd_square : (r : ℕ) → (r * 2 + 1) * (r * 2 + 1) ≡ r * r * 4 + r * 4 + 1
odd_square r = (mul-add (r * 2 + 1) (r * 2) 1 ∙ (λ i. add-mul (r * 2) 1 (r * 2) i + (r * 2 + 1) * 1)) ∙ omega (arith, even_square r)

pub skipped : {m rest root rem i : ℕ} → Going m rest root rem i → i < 54 → rem * 4 + rest / 2 ^ 62 < root * 4 + 1
    → Going m ((rest * 4) % 2 ^ 64) (root * 2) (rem * 4 + rest / 2 ^ 62) (i + 1)
skipped {m} {rest} {root} {rem} {i} g h l =
    let d = down (m * 4 ^ i) (root * root) rem rest g.whole in
    record {
      turns = omega arith;
      small = rw (up 2 i) (omega (arith, g.small));
      left = omega arith;
      word = omega arith;
      whole = rw (up 4 i, four_times m (4 ^ i)) (omega (arith, d, even_square root));
    }

pub taken : {m rest root rem i : ℕ} → Going m rest root rem i → i < 54 → root * 4 + 1 ≤ rem * 4 + rest / 2 ^ 62
    → Going m ((rest * 4) % 2 ^ 64) (root * 2 + 1) (rem * 4 + rest / 2 ^ 62 - (root * 4 + 1)) (i + 1)
taken {m} {rest} {root} {rem} {i} g h l =
    let d = down (m * 4 ^ i) (root * root) rem rest g.whole in
    record {
      turns = omega arith;
      small = rw (up 2 i) (omega (arith, g.small));
      left = omega (arith, g.left, g.word);
      word = omega arith;
      whole = rw (up 4 i, four_times m (4 ^ i)) (omega (arith, d, odd_square root, l));
    }
