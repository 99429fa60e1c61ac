-- An array worked over in place, number by number: what stands below p is worked, the rest as it was; and the first values are then the definition's
-- list. Assumes nothing.
use Prim.Native.Nat.{ℕ, zero, suc, ◌+◌, ◌≤◌, ◌<◌}
use mathlib.Core.Path.{◌≡◌, refl, sym, ap, ◌∙◌}
use mathlib.Core.List.{List, [], ◌∷◌, map}
use native.Mathlib.Omega.{arith}
use native.Mathlib.Nat.{not-suc-le-zero, le_of_suc-le-suc}
use lib.Dec.{eqb}
use lib.ListN.{length, get_or, set, take, length-set}
use lib.Seq.{get_or-set_same, get_or-set_other, get_or-take, length-take-le, ext_get_or}
use lib.Ieee.{Float, nan}
use borrow.Author.Tests.{eqb-true, eqb-false}
use Rattle.averages.specs.Front.{on_front}
use Rattle.averages.proofs.Fronts.{on_front_length}
use Rattle.sde.specs.Diffusion.{each_from}
use Rattle.sde.specs.Arrays.{Mapped}
use Rattle.engine.proofs.Arcs.{on_bool}

-- ---- the list

each_length : (f : ℕ → Float → Float) (p : ℕ) (xs : List Float) → length (each_from f p xs) ≡ length xs
each_length f p [] = refl
each_length f p (x ∷ xs) = ap suc (each_length f (suc p) xs)

each_at : (f : ℕ → Float → Float) (p : ℕ) (xs : List Float) (i : ℕ) → i < length xs → get_or (each_from f p xs) i nan ≡ f (p + i) (get_or xs i nan)
each_at f p [] i h = absurd (not-suc-le-zero h)
each_at f p (x ∷ xs) zero h = let d : p ≡ p + 0 = omega arith in ap (λ (q : ℕ). f q x) d
each_at f p (x ∷ xs) (suc i) h =
    let d : suc p + i ≡ p + suc i = omega arith in
    each_at f (suc p) xs i (le_of_suc-le-suc h) ∙ ap (λ (q : ℕ). f q (get_or xs i nan)) d

-- two rules that agree at the numbers of the list
each_same_from : (f g : ℕ → Float → Float) (p : ℕ) (xs : List Float) → ((i : ℕ) → i < length xs → (v : Float) → f (p + i) v ≡ g (p + i) v)
    → each_from f p xs ≡ each_from g p xs
each_same_from f g p [] e = refl
each_same_from f g p (x ∷ xs) e =
    let d : p + 0 ≡ p = omega arith in
    let h : f p x ≡ g p x = sym (ap (λ (q : ℕ). f q x) d) ∙ e 0 (omega arith) x ∙ ap (λ (q : ℕ). g q x) d in
    λ k. h k ∷ each_same_from f g (suc p) xs (λ i b v. let z : suc p + i ≡ p + suc i = omega arith in
    ap (λ (q : ℕ). f q v) z ∙ e (suc i) (omega arith) v ∙ sym (ap (λ (q : ℕ). g q v) z)) k

pub each_same : (f g : ℕ → Float → Float) (xs : List Float) → ((i : ℕ) → i < length xs → (v : Float) → f i v ≡ g i v) → each_from f 0 xs ≡ each_from g 0 xs
each_same f g xs e = each_same_from f g 0 xs (λ i b v. let z : 0 + i ≡ i = omega arith in ap (λ (q : ℕ). f q v) z ∙ e i b v ∙ sym (ap (λ (q : ℕ). g q v) z))

-- one value for all, over another list of that length
pub each_one : (z : Float) (p : ℕ) (xs ys : List Float) → length xs ≡ length ys → each_from (λ (q : ℕ) (v : Float). z) p xs ≡ map (λ (v : Float). z) ys
each_one z p [] [] e = refl
each_one z p [] (y ∷ ys) e = absurd (omega arith)
each_one z p (x ∷ xs) [] e = absurd (omega arith)
each_one z p (x ∷ xs) (y ∷ ys) e = ap (λ (l : List Float). z ∷ l) (each_one z (suc p) xs ys (omega arith))

-- one value in the first places of an array
front_each : (z : Float) (p k : ℕ) (xs : List Float) → take k (on_front (λ (x : Float). z) k xs) ≡ each_from (λ (q : ℕ) (v : Float). z) p (take k xs)
front_each z p zero xs = refl
front_each z p (suc k) [] = refl
front_each z p (suc k) (x ∷ xs) = ap (λ (l : List Float). z ∷ l) (front_each z (suc p) k xs)

pub front_mapped : (z : Float) (places : ℕ) (before after : List Float) → length before ≡ 32 → after ≡ on_front (λ (x : Float). z) places before
    → Mapped places (λ (p : ℕ) (v : Float). z) before after
front_mapped z places before after l e =
    record {
      long = ap length e ∙ on_front_length (λ (x : Float). z) places before ∙ l;
      each = ap (take places) e ∙ front_each z 0 places before;
    }

-- ---- the loop

pub record MapTo (f : ℕ → Float → Float) (p : ℕ) (before after : List Float) : Type 0 where
  pub long : length after ≡ length before
  pub done : (q : ℕ) → q < p → get_or after q nan ≡ f q (get_or before q nan)
  pub rest : (q : ℕ) → p ≤ q → get_or after q nan ≡ get_or before q nan

pub map_none : (f : ℕ → Float → Float) (xs : List Float) → MapTo f 0 xs xs
map_none f xs = record { long = refl; done = λ q h. absurd (not-suc-le-zero h); rest = λ q h. refl }

pub map_more : (f : ℕ → Float → Float) (p : ℕ) (before after : List Float) (v : Float) → p < length after → v ≡ f p (get_or after p nan)
    → MapTo f p before after → MapTo f (p + 1) before (set after p v)
map_more f p before after v h e m =
    record {
      long = length-set after p v ∙ m.long;
      done = λ q k. on_bool (eqb q p)
          (λ y.
          let s : q ≡ p = eqb-true q p y in
          ap (λ (x : ℕ). get_or (set after p v) x nan) s ∙ get_or-set_same after p v nan h ∙ e ∙ ap (f p) (m.rest p (omega arith))
          ∙ sym (ap (λ (x : ℕ). f x (get_or before x nan)) s))
          (λ y.
          let s = eqb-false q p y in
          get_or-set_other after p q v nan s ∙ m.done q (omega (arith, s)));
      rest = λ q k. get_or-set_other after p q v nan (λ s. omega arith) ∙ m.rest q (omega arith);
    }

pub map_all : (f : ℕ → Float → Float) (places p : ℕ) (before after : List Float) → length before ≡ 32 → places ≤ 32 → places ≤ p → p ≤ places → MapTo f p before after
    → Mapped places f before after
map_all f places p before after l h a b m =
    let x = length-take-le places before (omega arith) in
    let y = length-take-le places after (omega (arith, m.long)) in
    record {
      long = m.long ∙ l;
      each =
          ext_get_or nan (take places after) (each_from f 0 (take places before)) (omega (arith, each_length f 0 (take places before)))
          (λ i k.
          let i< : i < places = omega arith in
          let z : i ≡ 0 + i = omega arith in
          get_or-take places after i nan i<
          ∙ m.done i (omega arith)
          ∙ ap (f i) (sym (get_or-take places before i nan i<))
          ∙ ap (λ (q : ℕ). f q (get_or (take places before) i nan)) z
          ∙ sym (each_at f 0 (take places before) i (omega arith)));
    }
