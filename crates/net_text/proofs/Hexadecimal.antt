-- The laws of a float's digits, read one by one: what is left to read, behind the value so far, is the float. Assumes nothing.
use Prim.Native.Nat.{ℕ, zero, suc, ◌+◌, ◌-◌, ◌*◌, ◌%◌, ◌^◌, ◌≤◌, ◌<◌}
use mathlib.Core.Path.{◌≡◌, refl, sym, ap, ◌∙◌}
use mathlib.Core.Bool.{Bool, true, false, ◌||◌}
use mathlib.Core.Logic.{⊎_elim}
use mathlib.Core.List.{[], ◌∷◌, ◌++◌}
use native.Mathlib.Omega.{arith}
use native.Mathlib.Numerals.{add-one}
use native.Mathlib.Nat.{pow-suc, pow-le-pow_right, mod-eq_of_lt, eq-or-lt_of_le}
use lib.Dec.{eqb}
use borrow.Author.Tests.{lt-ltb, ne_eqb}
use Rattle.std.proofs.Math.Bool.{or-true, or-false}
use lib.ListN.{length, get_or, take, drop, take-append-drop}
use lib.Seq.{drop-cons, drop-length}
use Rattle.net.specs.Net.{pick}
use Rattle.text.specs.Text.{Bytes}
use Rattle.net_text.specs.Forms.{Met, wrong, met, behind, is_digit_byte, between, hex_digit, hex_from, hexadecimal}
use Rattle.net_text.specs.Scanned.{hex_is}

-- a digit, or none, leaves the bytes behind the first
hex_on : (x y : Bool) (k v d e : ℕ) (t : Bytes) → ((u : ℕ) → hex_from k u t ≡ wrong)
    → behind (pick x (met d t) (pick y (met e t) wrong)) (λ (a : ℕ). hex_from k (v * 16 + a)) ≡ wrong
hex_on true y k v d e t h = h (v * 16 + d)
hex_on false true k v d e t h = h (v * 16 + e)
hex_on false false k v d e t h = refl

hex_short : (k v : ℕ) (t : Bytes) → length t < k → hex_from k v t ≡ wrong
hex_short zero v t h = absurd (omega arith)
hex_short (suc k) v [] h = refl
hex_short (suc k) v (b ∷ t) h = hex_on (is_digit_byte b) (between 97 102 b) k v (b - 48) (b - 87) t (λ u. hex_short k u t (omega arith))

-- fewer bytes than digits
pub no_float : (t : Bytes) → length t < 16 → hexadecimal t ≡ wrong
no_float t h = hex_short 16 0 t h

-- the digits ds, of which i are read with the value v, and whether one of those is strange, and the bytes behind them
abbrev pub Read : Bytes → Bytes → Bytes → ℕ → ℕ → Bool → Type 0
Read t ds left i v strange = (pick strange wrong (hex_from (16 - i) v (drop i ds ++ left)) ≡ hexadecimal t) × (v < 16 ^ i)

pub read_none : (t ds left : Bytes) → ds ≡ take 16 t → left ≡ drop 16 t → Read t ds left 0 0 false
read_none t ds left d l =
    let whole : ds ++ left ≡ t = rw (d, l) (take-append-drop 16 t) in
    (ap (hex_from 16 0) whole, omega arith)

either_wrong : (strange : Bool) → pick {A = Met ℕ} strange wrong wrong ≡ wrong
either_wrong true = refl
either_wrong false = refl

module _ (t ds left : Bytes) (i v : ℕ) (strange : Bool) (r : Read t ds left i v strange) (long : length ds ≡ 16) where
  pub room : i < 16 → v < 2 ^ 60
  room h =
      let most : 16 ^ i ≤ 16 ^ 15 = pow-le-pow_right {n = 16} (omega arith) {i = i} {j = 15} (omega arith) in
      omega (arith, r.1)

  -- all are read
  pub read_all : i ≡ 16 → strange ≡ false → hexadecimal t ≡ met v left
  read_all e s = sym r.0 ∙ rw (s, e, sym long, drop-length ds)

  module _ (d : ℕ) (inside : i < length ds) (e : (u : Bytes) → hex_digit (get_or ds i 0 ∷ u) ≡ hex_is d u) where
    one_more : hex_from (16 - i) v (drop i ds ++ left) ≡ behind (hex_is d (drop (i + 1) ds ++ left)) (λ (a : ℕ). hex_from (16 - (i + 1)) (v * 16 + a))
    one_more =
        let more : 16 - i ≡ suc (16 - (i + 1)) = omega arith in
        ap (λ (k : ℕ). hex_from k v (drop i ds ++ left)) more
        ∙ ap (λ (u : Bytes). behind (hex_digit (u ++ left)) (λ (a : ℕ). hex_from (16 - (i + 1)) (v * 16 + a))) (drop-cons ds i 0 inside)
        ∙ rw add-one (ap (λ (m : Met ℕ). behind m (λ (a : ℕ). hex_from (16 - suc i) (v * 16 + a))) (e (drop (suc i) ds ++ left)))

    wider : 16 ^ (i + 1) ≡ 16 ^ i * 16
    wider = rw (add-one, pow-suc)

    digit : d < 16 → Read t ds left (i + 1) (v * 16 + d % 16) (strange || eqb d 16)
    digit h =
        rw (mod-eq_of_lt h, ne_eqb d 16 (λ e. absurd (omega (arith, h, e))), or-false strange)
        (sym (ap (λ (m : Met ℕ). pick strange wrong m) (one_more ∙ rw (lt-ltb d 16 h))) ∙ r.0, omega (arith, r.1, wider))

    none : d ≡ 16 → Read t ds left (i + 1) (v * 16 + d % 16) (strange || eqb d 16)
    none s =
        rw (s, or-true strange)
        (sym (either_wrong strange) ∙ sym (ap (λ (m : Met ℕ). pick strange wrong m) (one_more ∙ rw s)) ∙ r.0, omega (arith, r.1, wider))

    pub read_more : d ≤ 16 → Read t ds left (i + 1) (v * 16 + d % 16) (strange || eqb d 16)
    read_more h = ⊎_elim none digit (eq-or-lt_of_le h)

-- one was no digit
pub read_wrong : (t ds left : Bytes) (i v : ℕ) (strange : Bool) → Read t ds left i v strange → strange ≡ true → hexadecimal t ≡ wrong
read_wrong t ds left i v strange r s = sym r.0 ∙ rw s
