-- The labels of places: how long one is, whether two are the same, and the labels before a place one by one. Assumes nothing.
use Prim.Native.Nat.{ℕ, suc, ◌+◌, ◌-◌, ◌*◌, ◌≤◌, ◌<◌}
use mathlib.Core.Path.{◌≡◌, refl, sym, ap, ap₂, ◌∙◌}
use mathlib.Core.Bool.{Bool, true, false, ◌&&◌, ◌||◌}
use mathlib.Core.List.{List, [], ◌∷◌, ◌++◌}
use native.Mathlib.Omega.{arith}
use native.Mathlib.Numerals.{add-one}
use borrow.Author.Tests.{leb-true, eqb-true, eq-eqb}
use lib.Dec.{eqb, leb}
use lib.ListN.{length, get_or, take, length-take, drop, take-append-drop}
use lib.Seq.{drop-drop}
use lib.Pointwise.{pointwise}
use Rattle.std.proofs.lemmas.List.{length-take-le, length-drop}
use Rattle.std.proofs.lemmas.Bool.{false≢true}
use Rattle.std.proofs.Common.{◌≢◌}
use Rattle.text.specs.Text.{Bytes, same}
use Rattle.net.specs.Net.{pick}
use Rattle.net.specs.Tests.{any}
use Rattle.net.specs.Labels.{label_at, labels_from}

-- at most 16 bytes
pub label_short : (label lengths : List ℕ) (p : ℕ) → length (label_at label lengths p) ≤ 16
label_short label lengths p = go (get_or lengths p 0) (leb (get_or lengths p 0) 16) refl
  where
    go : (n : ℕ) (b : Bool) → leb n 16 ≡ b → length (pick b (take n (drop (16 * p) label)) []) ≤ 16
    go n true e = let few : n ≤ 16 = leb-true n 16 e in omega (arith, length-take n (drop (16 * p) label))
    go n false e = omega arith

slices_same : (s t : Bytes) → pointwise eqb s t ≡ same s t
slices_same [] [] = refl
slices_same [] (c ∷ t) = refl
slices_same (b ∷ s) [] = refl
slices_same (b ∷ s) (c ∷ t) = ap (λ (r : Bool). eqb b c && r) (slices_same s t)

-- what `==` says of two labels, each read as a slice
pub same_read : {a b s t : Bytes} {x : Bool} → x ≡ pointwise eqb a b → a ≡ s → b ≡ t → same s t ≡ x
same_read {a} {b} e f g = sym (e ∙ slices_same a b ∙ ap₂ same f g)

equal_by : (x y : Bool) (b c : ℕ) (s t : Bytes) → eqb b c ≡ x → (y ≡ true → s ≡ t) → (x && y) ≡ true → (b ∷ s) ≡ (c ∷ t)
equal_by true y b c s t e later h = ap₂ ◌∷◌ (eqb-true b c e) (later h)
equal_by false y b c s t e later h = absurd (false≢true h)

same_true : (s t : Bytes) → same s t ≡ true → s ≡ t
same_true [] [] h = refl
same_true [] (c ∷ t) h = absurd (false≢true h)
same_true (b ∷ s) [] h = absurd (false≢true h)
same_true (b ∷ s) (c ∷ t) h = equal_by (eqb b c) (same s t) b c s t refl (same_true s t) h

read_true : (s t : Bytes) → pointwise eqb s t ≡ true → s ≡ t
read_true s t h = same_true s t (sym (slices_same s t) ∙ h)

same_self : (s : Bytes) → same s s ≡ true
same_self [] = refl
same_self (b ∷ s) = rw (eq-eqb b b refl) (same_self s)

differ_by : (x y : Bool) (b c : ℕ) (s t : Bytes) → eqb b c ≡ x → (s ≢ t → y ≡ false) → (b ∷ s) ≢ (c ∷ t) → (x && y) ≡ false
differ_by true y b c s t e later n =
    let is : b ≡ c = eqb-true b c e in
    later (λ f. n (ap₂ ◌∷◌ is f))
differ_by false y b c s t e later n = refl

not_same : (s t : Bytes) → s ≢ t → same s t ≡ false
not_same [] [] n = absurd (n refl)
not_same [] (c ∷ t) n = refl
not_same (b ∷ s) [] n = refl
not_same (b ∷ s) (c ∷ t) n = differ_by (eqb b c) (same s t) b c s t refl (not_same s t) n

-- two labels of which some bytes differ are not the same
differ_at : (f : Bytes → Bytes) (s t : Bytes) → pointwise eqb (f s) (f t) ≡ false → false ≡ same s t
differ_at f s t h = sym (not_same s t (λ e. false≢true (sym h ∙ slices_same (f s) (f t) ∙ ap (λ (l : Bytes). same (f s) (f l)) (sym e) ∙ same_self (f s))))

-- two labels of which some number differs, as the length or the last byte, are not the same
pub differ : (f : Bytes → ℕ) (s t : Bytes) → f s ≢ f t → false ≡ same s t
differ f s t n = sym (not_same s t (λ e. n (ap f e)))

-- two labels of one length, of k to 2 k bytes: their first k bytes and their last k bytes decide
module _ (s t : Bytes) (k : ℕ) (d : length s ≡ length t) (few : k ≤ length s) (most : length s ≤ 2 * k) where
  rest : (l : Bytes) → length l ≡ length s → drop k l ≡ drop (2 * k - length s) (drop (length l - k) l)
  rest l e =
      let there : length l - k + (2 * k - length s) ≡ k = omega (arith, e, few, most) in
      sym (drop-drop (2 * k - length s) (length l - k) l ∙ ap (λ (m : ℕ). drop m l) there)

  whole : take k s ≡ take k t → drop (length s - k) s ≡ drop (length t - k) t → s ≡ t
  whole e f =
      sym (take-append-drop k s)
      ∙ ap₂ ◌++◌ e (rest s refl ∙ ap (drop (2 * k - length s)) f ∙ sym (rest t (sym d)))
      ∙ take-append-drop k t

  by_last : (y : Bool) → take k s ≡ take k t → pointwise eqb (drop (length s - k) s) (drop (length t - k) t) ≡ y → y ≡ same s t
  by_last true e f = sym (ap (same s) (sym (whole e (read_true (drop (length s - k) s) (drop (length t - k) t) f))) ∙ same_self s)
  by_last false e f = differ_at (λ l. drop (length l - k) l) s t f

  pub last_decides : {x y : Bool} → x ≡ true → x ≡ pointwise eqb (take k s) (take k t) → y ≡ pointwise eqb (drop (length s - k) s) (drop (length t - k) t) → y ≡ same s t
  last_decides {x} {y} a e f = by_last y (read_true (take k s) (take k t) (sym e ∙ a)) (sym f)

  pub first_decides : {x : Bool} → x ≡ false → x ≡ pointwise eqb (take k s) (take k t) → x ≡ same s t
  first_decides {x} a e = a ∙ differ_at (take k) s t (sym e ∙ a)

-- a label is as long as its length says, where there is one: none of another length has as many bytes
pub length_apart : (label lengths : List ℕ) (q n : ℕ) → length label ≡ 512 → q < 32 → 0 < n → get_or lengths q 0 ≢ n
    → n ≢ length (label_at label lengths q)
length_apart label lengths q n whole h some d = go (get_or lengths q 0) (leb (get_or lengths q 0) 16) refl d
  where
    go : (m : ℕ) (b : Bool) → leb m 16 ≡ b → m ≢ n → n ≢ length (pick b (take m (drop (16 * q) label)) [])
    go m true e d f =
        let few : m ≤ 16 = leb-true m 16 e in
        let room : m ≤ length (drop (16 * q) label) = omega (arith, length-drop (16 * q) label) in
        d (sym (f ∙ length-take-le m (drop (16 * q) label) room))
    go m false e d f = omega arith

-- the labels that are left, from place q up to p: one and the rest
pub labels_turn : (f : Bytes → Bool) (label lengths : List ℕ) (q p : ℕ) {t : Bool} → q < p → any f (labels_from label lengths q (p - q)) ≡ t
    → t ≡ (f (label_at label lengths q) || any f (labels_from label lengths (q + 1) (p - (q + 1))))
labels_turn f label lengths q p h inv =
    let d : p - q ≡ suc (p - (q + 1)) = omega arith in
    sym inv
    ∙ ap (λ (k : ℕ). any f (labels_from label lengths q k)) d
    ∙ ap (λ (r : ℕ). f (label_at label lengths q) || any f (labels_from label lengths r (p - (q + 1)))) (sym (add-one q))
