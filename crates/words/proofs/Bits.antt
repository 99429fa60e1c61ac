-- The bits of a word: of none, of one, of all below a number, of a union and of what two share; the lowest that is set, and what is left without it; and that
-- its bits make a word. Each law goes bit by bit: bit 0 is the last digit, and bit i + 1 of a number is bit i of its half. Assumes nothing.
use Rattle.std.proofs.Common.{◌≡◌, ℕ, zero, suc, ◌+◌, ◌-◌, ◌*◌, ◌/◌, ◌%◌, ◌^◌, ◌<◌, ◌≤◌, min, Bool, true, false, not, ◌&&◌, ◌||◌, eqb, ltb, sym, refl, ap, ◌∙◌, mod-lt, pow-suc, div-one, arith, pow_pos, shl_exact, shr-shr, ltb-false, ltb-true, le-ltb, lt-ltb, eqb-true}
use mathlib.Core.Bool.{and-true, and-false}
use lib.Dec.{eqb-suc-suc, eqb-suc-zero}
use lib.Bits.{bit_and, bit_or, or_shr, or_mod, and_shr, and_mod, and_step, and_self, and_mask}
use lib.Count.{count_trailing_zeros, under}
use borrow.Author.Tests.{eqb-false}
use Rattle.words.specs.Bits.{bit}

-- ---- bit 0, and the others

pub bit_first : (m : ℕ) → bit m 0 ≡ eqb (m % 2) 1
unfolding bit
bit_first m = ap (λ (x : ℕ). eqb (x % 2) 1) (div-one m)

pub bit_next : (m i : ℕ) → bit m (suc i) ≡ bit (m / 2) i
unfolding bit
bit_next m i =
    let e : 1 + i ≡ suc i = omega arith in
    ap (λ (x : ℕ). eqb (x % 2) 1) (sym (shr-shr m 1 i ∙ ap (λ (x : ℕ). m / 2 ^ x) e))

-- as the code tests it
pub bit_tested : (m j : ℕ) → eqb (bit_and (m / 2 ^ j) 1) 1 ≡ bit m j
unfolding bit
bit_tested m j = ap (λ (x : ℕ). eqb x 1) (and_mask (m / 2 ^ j) 1)

-- by the last digit
two : {P : Type 0} (x : ℕ) → (x % 2 ≡ 0 → P) → (x % 2 ≡ 1 → P) → P
two {P} x f g = go (x % 2) refl (mod-lt x (omega arith))
  where
    go : (r : ℕ) → x % 2 ≡ r → r < 2 → P
    go zero e h = f e
    go (suc zero) e h = g e
    go (suc (suc r)) e h = absurd (omega arith)

half_small : (k m : ℕ) → m < 2 ^ suc k → m / 2 < 2 ^ k
half_small k m h = omega (arith, pow-suc 2 k)

-- ---- none, one, all of the first

pub bit_none : (j : ℕ) → bit 0 j ≡ false
bit_none zero = bit_first 0
bit_none (suc j) = bit_next 0 j ∙ bit_none j

one_there : (k : ℕ) → bit (2 ^ k) k ≡ true
one_there zero = bit_first 1
one_there (suc k) =
    let e : 2 ^ suc k / 2 ≡ 2 ^ k = omega (arith, pow-suc 2 k) in
    bit_next (2 ^ suc k) k ∙ ap (λ (x : ℕ). bit x k) e ∙ one_there k

one_elsewhere : (k j : ℕ) → (j ≡ k → ⊥) → bit (2 ^ k) j ≡ false
one_elsewhere zero zero h = absurd (h refl)
one_elsewhere zero (suc j) h = bit_next 1 j ∙ bit_none j
one_elsewhere (suc k) zero h =
    let e : 2 ^ suc k % 2 ≡ 0 = omega (arith, pow-suc 2 k) in
    bit_first (2 ^ suc k) ∙ ap (λ (x : ℕ). eqb x 1) e
one_elsewhere (suc k) (suc j) h =
    let e : 2 ^ suc k / 2 ≡ 2 ^ k = omega (arith, pow-suc 2 k) in
    bit_next (2 ^ suc k) j ∙ ap (λ (x : ℕ). bit x j) e ∙ one_elsewhere k j (λ z. h (ap suc z))

pub bit_one : (k j : ℕ) → bit (2 ^ k) j ≡ eqb j k
bit_one k j = go (eqb j k) refl
  where
    go : (c : Bool) → eqb j k ≡ c → bit (2 ^ k) j ≡ c
    go true e = ap (bit (2 ^ k)) (eqb-true j k e) ∙ one_there k
    go false e = one_elsewhere k j (eqb-false j k e)

-- as the code makes it
pub one_shifted : (j : ℕ) → j < 64 → (1 * 2 ^ j) % 2 ^ 64 ≡ 2 ^ j
one_shifted j h =
    let e : 1 * 2 ^ j ≡ 2 ^ j = omega arith in
    shl_exact {a = 1} 1 j 64 (omega arith) (omega arith) ∙ e

pub bit_all : (k j : ℕ) → bit (2 ^ k - 1) j ≡ ltb j k
bit_all zero j = bit_none j ∙ sym (le-ltb j 0 (omega arith))
bit_all (suc k) zero =
    let e : (2 ^ suc k - 1) % 2 ≡ 1 = omega (arith, pow-suc 2 k, pow_pos k) in
    bit_first (2 ^ suc k - 1) ∙ ap (λ (x : ℕ). eqb x 1) e ∙ sym (lt-ltb 0 (suc k) (omega arith))
bit_all (suc k) (suc j) =
    let e : (2 ^ suc k - 1) / 2 ≡ 2 ^ k - 1 = omega (arith, pow-suc 2 k, pow_pos k) in
    bit_next (2 ^ suc k - 1) j ∙ ap (λ (x : ℕ). bit x j) e ∙ bit_all k j ∙ sym (ltb_suc j k)
  where
    ltb_suc : (a b : ℕ) → ltb (suc a) (suc b) ≡ ltb a b
    ltb_suc a b = go (ltb a b) refl
      where
        go : (c : Bool) → ltb a b ≡ c → ltb (suc a) (suc b) ≡ c
        go true e = lt-ltb (suc a) (suc b) (omega (arith, ltb-true a b e))
        go false e = le-ltb (suc a) (suc b) (omega (arith, ltb-false a b e))

-- ---- a union, and what two share

-- of two last digits
digits : (op : ℕ → ℕ → ℕ) (on : Bool → Bool → Bool)
    → eqb (op 0 0) 1 ≡ on false false → eqb (op 0 1) 1 ≡ on false true → eqb (op 1 0) 1 ≡ on true false → eqb (op 1 1) 1 ≡ on true true
    → (x y : ℕ) → eqb (op (x % 2) (y % 2)) 1 ≡ on (eqb (x % 2) 1) (eqb (y % 2) 1)
digits op on e f g h x y = go (x % 2) (y % 2) (mod-lt x (omega arith)) (mod-lt y (omega arith))
  where
    go : (r s : ℕ) → r < 2 → s < 2 → eqb (op r s) 1 ≡ on (eqb r 1) (eqb s 1)
    go zero zero l k = e
    go zero (suc zero) l k = f
    go (suc zero) zero l k = g
    go (suc zero) (suc zero) l k = h
    go (suc (suc r)) s l k = absurd (omega arith)
    go zero (suc (suc s)) l k = absurd (omega arith)
    go (suc zero) (suc (suc s)) l k = absurd (omega arith)

pub bit_or_lem : (a b j : ℕ) → bit (bit_or a b) j ≡ (bit a j || bit b j)
unfolding bit
bit_or_lem a b j =
    let x = a / 2 ^ j in
    let y = b / 2 ^ j in
    ap (λ (z : ℕ). eqb (z % 2) 1) (or_shr a b j) ∙ ap (λ (z : ℕ). eqb z 1) (or_mod x y 1) ∙ digits bit_or ◌||◌ refl refl refl refl x y

pub bit_and_lem : (a b j : ℕ) → bit (bit_and a b) j ≡ (bit a j && bit b j)
unfolding bit
bit_and_lem a b j =
    let x = a / 2 ^ j in
    let y = b / 2 ^ j in
    ap (λ (z : ℕ). eqb (z % 2) 1) (and_shr a b j) ∙ ap (λ (z : ℕ). eqb z 1) (and_mod x y 1) ∙ digits bit_and ◌&&◌ refl refl refl refl x y

-- ---- a word is made of its bits

-- of k bits, none is beyond
pub bit_beyond : (k m j : ℕ) → m < 2 ^ k → k ≤ j → bit m j ≡ false
bit_beyond zero m j h l = let z : m ≡ 0 = omega arith in ap (λ (x : ℕ). bit x j) z ∙ bit_none j
bit_beyond (suc k) m zero h l = absurd (omega arith)
bit_beyond (suc k) m (suc j) h l = bit_next m j ∙ bit_beyond k (m / 2) j (half_small k m h) (omega arith)

-- words of k bits that have the same bits are the same
pub same_bits : (k a b : ℕ) → a < 2 ^ k → b < 2 ^ k → ((j : ℕ) → j < k → bit a j ≡ bit b j) → a ≡ b
same_bits zero a b h g f = omega arith
same_bits (suc k) a b h g f =
    let rest : a / 2 ≡ b / 2 = same_bits k (a / 2) (b / 2) (half_small k a h) (half_small k b g) (λ j l. sym (bit_next a j) ∙ f (suc j) (omega arith) ∙ bit_next b j) in
    let last : a % 2 ≡ b % 2 = digit (a % 2) (b % 2) (mod-lt a (omega arith)) (mod-lt b (omega arith)) (sym (bit_first a) ∙ f 0 (omega arith) ∙ bit_first b) in
    omega arith
  where
    digit : (r s : ℕ) → r < 2 → s < 2 → eqb r 1 ≡ eqb s 1 → r ≡ s
    digit zero zero l m e = refl
    digit zero (suc zero) l m e = cc
    digit (suc zero) zero l m e = cc
    digit (suc zero) (suc zero) l m e = refl
    digit (suc (suc r)) s l m e = omega arith
    digit zero (suc (suc s)) l m e = omega arith
    digit (suc zero) (suc (suc s)) l m e = omega arith

-- one of k bits with none set is 0
pub none_set : (k m : ℕ) → m < 2 ^ k → ((j : ℕ) → j < k → bit m j ≡ false) → m ≡ 0
none_set k m h f = same_bits k m 0 h (pow_pos k) (λ j l. f j l ∙ sym (bit_none j))

-- ---- the lowest bit that is set

even_zeros : (k m : ℕ) → m % 2 ≡ 0 → count_trailing_zeros (suc k) m ≡ suc (count_trailing_zeros k (m / 2))
unfolding count_trailing_zeros
even_zeros k m e = ap (λ (r : ℕ). under r (count_trailing_zeros k (m / 2))) e

odd_zeros : (k m : ℕ) → m % 2 ≡ 1 → count_trailing_zeros (suc k) m ≡ 0
unfolding count_trailing_zeros
odd_zeros k m e = ap (λ (r : ℕ). under r (count_trailing_zeros k (m / 2))) e

pub lowest_small : (k m : ℕ) → 0 < m → m < 2 ^ k → count_trailing_zeros k m < k
lowest_small zero m p h = absurd (omega arith)
lowest_small (suc k) m p h =
    two m
    (λ e. let ih : count_trailing_zeros k (m / 2) < k = lowest_small k (m / 2) (omega arith) (half_small k m h) in omega (arith, even_zeros k m e))
    (λ e. omega (arith, odd_zeros k m e))

pub lowest_set : (k m : ℕ) → 0 < m → m < 2 ^ k → bit m (count_trailing_zeros k m) ≡ true
lowest_set zero m p h = absurd (omega arith)
lowest_set (suc k) m p h =
    two m
    (λ e. ap (bit m) (even_zeros k m e) ∙ bit_next m (count_trailing_zeros k (m / 2)) ∙ lowest_set k (m / 2) (omega arith) (half_small k m h))
    (λ e. ap (bit m) (odd_zeros k m e) ∙ bit_first m ∙ ap (λ (x : ℕ). eqb x 1) e)

no_zeros : (m i : ℕ) → i < count_trailing_zeros zero m → ⊥
unfolding count_trailing_zeros
no_zeros m i h = omega arith

pub below_lowest : (k m i : ℕ) → i < count_trailing_zeros k m → bit m i ≡ false
below_lowest zero m i h = absurd (no_zeros m i h)
below_lowest (suc k) m zero h = two m (λ e. bit_first m ∙ ap (λ (x : ℕ). eqb x 1) e) (λ e. absurd (omega (arith, odd_zeros k m e)))
below_lowest (suc k) m (suc i) h =
    two m
    (λ e. bit_next m i ∙ below_lowest k (m / 2) i (omega (arith, even_zeros k m e)))
    (λ e. absurd (omega (arith, odd_zeros k m e)))

-- ---- without it: m & (m - 1)

double_first : (x : ℕ) → bit (x * 2 + 0) 0 ≡ false
double_first x = let e : (x * 2 + 0) % 2 ≡ 0 = omega arith in bit_first (x * 2 + 0) ∙ ap (λ (z : ℕ). eqb z 1) e

double_next : (x i : ℕ) → bit (x * 2 + 0) (suc i) ≡ bit x i
double_next x i = let e : (x * 2 + 0) / 2 ≡ x = omega arith in bit_next (x * 2 + 0) i ∙ ap (λ (z : ℕ). bit z i) e

drop_even : (m : ℕ) → 0 < m → m % 2 ≡ 0 → bit_and m (m - 1) ≡ bit_and (m / 2) (m / 2 - 1) * 2 + 0
drop_even m p e =
    let h : (m - 1) / 2 ≡ m / 2 - 1 = omega arith in
    let z : min (m % 2) ((m - 1) % 2) ≡ 0 = omega arith in
    and_step m (m - 1) ∙ (λ i. bit_and (m / 2) (h i) * 2 + z i)

drop_odd : (m : ℕ) → m % 2 ≡ 1 → bit_and m (m - 1) ≡ m / 2 * 2 + 0
drop_odd m e =
    let h : (m - 1) / 2 ≡ m / 2 = omega arith in
    let z : min (m % 2) ((m - 1) % 2) ≡ 0 = omega arith in
    and_step m (m - 1) ∙ (λ i. bit_and (m / 2) (h i) * 2 + z i) ∙ ap (λ (x : ℕ). x * 2 + 0) (and_self (m / 2))

pub without_lowest : (k m i : ℕ) → 0 < m → m < 2 ^ k → bit (bit_and m (m - 1)) i ≡ (bit m i && not (eqb i (count_trailing_zeros k m)))
without_lowest zero m i p h = absurd (omega arith)
without_lowest (suc k) m zero p h =
    two m
    (λ e.
    let b : bit m 0 ≡ false = bit_first m ∙ ap (λ (x : ℕ). eqb x 1) e in
    ap (λ (x : ℕ). bit x 0) (drop_even m p e) ∙ double_first (bit_and (m / 2) (m / 2 - 1)) ∙ rw b)
    (λ e.
    let z : eqb 0 (count_trailing_zeros (suc k) m) ≡ true = ap (eqb 0) (odd_zeros k m e) in
    ap (λ (x : ℕ). bit x 0) (drop_odd m e) ∙ double_first (m / 2) ∙ sym (and-false (bit m 0)) ∙ ap (λ (c : Bool). bit m 0 && not c) (sym z))
without_lowest (suc k) m (suc i) p h =
    two m
    (λ e.
    let t = count_trailing_zeros k (m / 2) in
    ap (λ (x : ℕ). bit x (suc i)) (drop_even m p e)
    ∙ double_next (bit_and (m / 2) (m / 2 - 1)) i
    ∙ without_lowest k (m / 2) i (omega arith) (half_small k m h)
    ∙ ap (λ (c : Bool). c && not (eqb i t)) (sym (bit_next m i))
    ∙ ap (λ (c : Bool). bit m (suc i) && not c) (sym (eqb-suc-suc i t))
    ∙ ap (λ (x : ℕ). bit m (suc i) && not (eqb (suc i) x)) (sym (even_zeros k m e)))
    (λ e.
    let z : eqb (suc i) (count_trailing_zeros (suc k) m) ≡ false = ap (eqb (suc i)) (odd_zeros k m e) ∙ eqb-suc-zero i in
    ap (λ (x : ℕ). bit x (suc i)) (drop_odd m e)
    ∙ double_next (m / 2) i
    ∙ sym (bit_next m i)
    ∙ sym (and-true (bit m (suc i)))
    ∙ ap (λ (c : Bool). bit m (suc i) && not c) (sym z))
