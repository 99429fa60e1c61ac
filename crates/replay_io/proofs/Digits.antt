-- A number digit by digit, and that digits as a net text has them come to their value, of which 64 bits are kept. Assumes nothing.
use Prim.Native.Nat.{ℕ, suc, ◌+◌, ◌-◌, ◌*◌, ◌%◌, ◌^◌, ◌<◌}
use mathlib.Core.Path.{◌≡◌, refl, sym, ap, ◌∙◌}
use mathlib.Core.Bool.{Bool, true, false, ◌&&◌}
use mathlib.Core.List.{List, [], ◌∷◌}
use native.Mathlib.Omega.{arith}
use native.Mathlib.Numerals.{add-one}
use lib.Bits.{bit_or, or_shifted}
use lib.Dec.{leb}
use lib.ListN.{length, get_or, drop}
use lib.Seq.{drop-cons, drop-length}
use borrow.Author.Tests.{leb-true, leb-false}
use Rattle.net.specs.Net.{pick}
use Rattle.net_text.specs.Forms.{Met, wrong, met, behind, hex_from}
use Rattle.replay_io.specs.Digits.{digit, word_from}

-- the rest of the digits, behind those that come to n, comes to the whole
abbrev pub Rest : List ℕ → ℕ → ℕ → Type 0
Rest ds i n = word_from n (drop i ds) ≡ word_from 0 ds

pub one_more : (ds : List ℕ) (i n d : ℕ) → Rest ds i n → i < length ds → d ≡ digit (get_or ds i 0) → Rest ds (i + 1) (bit_or (n * 16 % 2 ^ 64) d)
one_more ds i n d r h e =
    ap (λ (k : ℕ). word_from (bit_or (n * 16 % 2 ^ 64) d) (drop k ds)) (add-one i)
    ∙ ap (λ (x : ℕ). word_from (bit_or (n * 16 % 2 ^ 64) x) (drop (suc i) ds)) e
    ∙ sym (ap (word_from n) (drop-cons ds i 0 h))
    ∙ r

pub no_more : (ds : List ℕ) (i n : ℕ) → Rest ds i n → i ≡ length ds → n ≡ word_from 0 ds
no_more ds i n r e = sym (ap (word_from n) (ap (λ (k : ℕ). drop k ds) e ∙ drop-length ds)) ∙ r

-- a digit below 16 behind 64 bits of u
joined : (u d : ℕ) → d < 16 → bit_or (u % 2 ^ 64 * 16 % 2 ^ 64) d ≡ (u * 16 + d) % 2 ^ 64
joined u d h =
    let high : u % 2 ^ 64 * 16 % 2 ^ 64 ≡ u % 2 ^ 60 * 2 ^ 4 = omega arith in
    let whole : (u * 16 + d) % 2 ^ 64 ≡ u % 2 ^ 60 * 2 ^ 4 + d = omega arith in
    ap (λ (n : ℕ). bit_or n d) high ∙ or_shifted (u % 2 ^ 60) 4 d h ∙ sym whole

-- what is met, as a number
abbrev met_value : Met ℕ → ℕ
met_value wrong = 0
met_value (met v t) = v

module _ (v : ℕ) where
  -- the bytes t, behind digits whose value is u: if they are k digits and the whole comes to v, then so it does where 64 bits are kept
  abbrev Kept : ℕ → List ℕ → Type 0
  Kept k t = (u : ℕ) → hex_from k u t ≡ met v [] → word_from (u % 2 ^ 64) t ≡ v % 2 ^ 64

  behind_one : (k u d c : ℕ) (t : List ℕ) → Kept k t → c ≡ d → d < 16 → hex_from k (u * 16 + d) t ≡ met v []
      → word_from (bit_or (u % 2 ^ 64 * 16 % 2 ^ 64) c) t ≡ v % 2 ^ 64
  behind_one k u d c t rest same h e =
      ap (λ (n : ℕ). word_from n t) (ap (bit_or (u % 2 ^ 64 * 16 % 2 ^ 64)) same ∙ joined u d h) ∙ rest (u * 16 + d) e

  -- by what the tests of a byte say
  by_tests : (p q r s : Bool) (k u b : ℕ) (t : List ℕ) → Kept k t → leb 48 b ≡ p → leb b 57 ≡ q → leb 97 b ≡ r → leb b 102 ≡ s
      → behind (pick (p && q) (met (b - 48) t) (pick (r && s) (met (b - 87) t) wrong)) (λ (a : ℕ). hex_from k (u * 16 + a)) ≡ met v []
      → word_from (bit_or (u % 2 ^ 64 * 16 % 2 ^ 64) (pick r (b - 97 + 10) (b - 48))) t ≡ v % 2 ^ 64
  by_tests true true true s k u b t rest e f g h m = absurd (omega (arith, leb-true b 57 f, leb-true 97 b g))
  by_tests true true false s k u b t rest e f g h m = behind_one k u (b - 48) (b - 48) t rest refl (omega (arith, leb-true b 57 f)) m
  by_tests true false true true k u b t rest e f g h m =
      behind_one k u (b - 87) (b - 97 + 10) t rest (omega (arith, leb-true 97 b g)) (omega (arith, leb-true b 102 h)) m
  by_tests true false true false k u b t rest e f g h m = let z : ◌≡◌ {A = ℕ} 0 1 = cc in absurd (omega arith)
  by_tests true false false s k u b t rest e f g h m = let z : ◌≡◌ {A = ℕ} 0 1 = cc in absurd (omega arith)
  by_tests false q true s k u b t rest e f g h m = absurd (omega (arith, leb-false 48 b e, leb-true 97 b g))
  by_tests false q false s k u b t rest e f g h m = let z : ◌≡◌ {A = ℕ} 0 1 = cc in absurd (omega arith)

  pub kept : (t : List ℕ) → Kept (length t) t
  kept [] u e = ap (λ (m : Met ℕ). met_value m % 2 ^ 64) e
  kept (b ∷ t) u e = by_tests (leb 48 b) (leb b 57) (leb 97 b) (leb b 102) (length t) u b t (kept t) refl refl refl refl e

pub written : (t : List ℕ) (n v : ℕ) → n ≡ word_from 0 t → hex_from (length t) 0 t ≡ met v [] → n ≡ v % 2 ^ 64
written t n v h e = h ∙ kept v t 0 e
