-- A number digit by digit. Assumes nothing.
use Prim.Native.Nat.{ℕ, suc, ◌+◌, ◌-◌, ◌*◌, ◌≤◌, ◌<◌}
use mathlib.Core.Path.{◌≡◌, refl, sym, ap, ◌∙◌, subst}
use mathlib.Core.Bool.{Bool, true, false, ◌&&◌, cond, and-true}
use mathlib.Core.List.{List, []}
use native.Mathlib.Omega.{arith}
use lib.Dec.{T, leb, ltb}
use lib.ListN.{length, get_or, drop}
use lib.Seq.{drop-cons, drop-length}
use borrow.Author.Tests.{leb-true, lt-ltb}
use Rattle.std.specs.Prelude.{Some, None}
use Rattle.net_io.specs.Digits.{number, is_digit_byte, every_digit, is_number, value_from, held}

on_bool : {P : Type 0} (b : Bool) → (b ≡ true → P) → (b ≡ false → P) → P
on_bool true f g = f refl
on_bool false f g = g refl

-- ---- one digit

pub digit_bounds : (b : ℕ) → is_digit_byte b ≡ true → (48 ≤ b) × (b ≤ 57)
digit_bounds b e =
    on_bool (leb 48 b)
    (λ t. (leb-true 48 b t, leb-true b 57 (sym (ap (λ (c : Bool). c && leb b 57) t) ∙ e)))
    (λ f. absurd (subst T (sym (sym (ap (λ (c : Bool). c && leb b 57) f) ∙ e)) tt))

-- the digits from i on, on top of v, come to the whole, and are digits just where all are
pub record Upto (ds : List ℕ) (i n : ℕ) : Type 0 where
  pub v : ℕ
  pub has : n ≡ held v
  pub rest : value_from v (drop i ds) ≡ value_from 0 ds
  pub same : every_digit (drop i ds) ≡ every_digit ds

module _ (ds : List ℕ) (i n : ℕ) (u : Upto ds i n) where
  pub one_more : (m : ℕ) → i < length ds → is_digit_byte (get_or ds i 0) ≡ true → m ≡ held (u.v * 10 + (get_or ds i 0 - 48)) → Upto ds (suc i) m
  one_more m h t e =
      record {
        v = u.v * 10 + (get_or ds i 0 - 48);
        has = e;
        rest = sym (ap (value_from u.v) (drop-cons ds i 0 h)) ∙ u.rest;
        same = sym (ap every_digit (drop-cons ds i 0 h) ∙ ap (λ (b : Bool). b && every_digit (drop (suc i) ds)) t) ∙ u.same;
      }

  pub no_digit : i < length ds → is_digit_byte (get_or ds i 0) ≡ false → is_number ds ≡ false
  no_digit h f =
      (λ k. lt-ltb 0 (length ds) (omega arith) k && (sym u.same ∙ ap every_digit (drop-cons ds i 0 h) ∙ ap (λ (b : Bool). b && every_digit (drop (suc i) ds)) f) k)

  pub all_digits : i ≡ length ds → (every_digit ds ≡ true) × (n ≡ held (value_from 0 ds))
  all_digits e =
      let none : drop i ds ≡ [] = ap (λ (k : ℕ). drop k ds) e ∙ drop-length ds in
      (sym u.same ∙ ap every_digit none, u.has ∙ ap held (sym (ap (value_from u.v) none) ∙ u.rest))

-- digits and nothing else are a number where there is one
some_digits_lem : (ds : List ℕ) → every_digit ds ≡ true → ltb 0 (length ds) ≡ is_number ds
some_digits_lem ds d = sym (ap (λ (b : Bool). ltb 0 (length ds) && b) d ∙ and-true (ltb 0 (length ds)))

pub told : (ds : List ℕ) (n : ℕ) → 0 < length ds → every_digit ds ≡ true → n ≡ held (value_from 0 ds) → Some n ≡ number ds
told ds n h d e = ap Some e ∙ sym (ap (λ (c : Bool). cond c (Some (held (value_from 0 ds))) None) (sym (some_digits_lem ds d) ∙ lt-ltb 0 (length ds) h))
