-- The timers of three arrays, from number i on. A test of each runs along them as along a list; the times are also compared with the one before.
use Rattle.std.proofs.Common.{◌≡◌, ℕ, zero, suc, ◌+◌, ◌-◌, ◌%◌, ◌<◌, ◌≤◌, Bool, true, false, not, ◌&&◌, ◌||◌, List, [], ◌∷◌, map, length, get_or, take, drop, sym, refl, ap, ◌∙◌, ap₂, mod-eq_of_lt, add-one, arith, drop-cons}
use Rattle.std.specs.List.{list_all, list_any}
use Rattle.std.proofs.lemmas.List.Folds.{list_all-map}
use mathlib.Core.Bool.{and-false}
use native.Mathlib.Nat.{sub-zero}
use lib.Ieee.{Float, lt}
use Rattle.net.specs.Tests.{any}
use Rattle.net.proofs.Slots.{not_first, not_second}
use Rattle.rules.specs.Timers.{Timer}
use Rattle.rules.specs.Change.{time_fits, falls}
use Rattle.timers.specs.Turning.{from}
use Rattle.carried.proofs.Rest.{none_amiss}

module _ (s : ℕ → Timer) (i n : ℕ) where
  pub from_next : n ≤ 256 → i < n → from s i (n - i) ≡ s i ∷ from s (i + 1) (n - (i + 1))
  from_next few h =
      let count : n - i ≡ suc (n - (i + 1)) = omega arith in
      let low : i % 256 ≡ i = mod-eq_of_lt (omega arith) in
      ap (from s i) count ∙ ap₂ (λ (k j : ℕ). s k ∷ from s j (n - (i + 1))) low (sym (add-one i))

  pub from_none : n ≤ i → from s i (n - i) ≡ []
  from_none h = let count : n - i ≡ 0 = omega arith in ap (from s i) count

-- a test that holds of none of the first n holds of no one of them
module _ (f : Timer → Bool) (s : ℕ → Timer) (n : ℕ) (few : n ≤ 256) (none : any f (from s 0 n) ≡ false) where
  none_left : (i : ℕ) → i ≤ n → any f (from s i (n - i)) ≡ false
  none_left zero h = rw sub-zero none
  none_left (suc i) h =
      ap (λ (k : ℕ). any f (from s k (n - k))) (sym (add-one i))
      ∙ not_second (f (s i)) _ (sym (ap (any f) (from_next s i n few (omega arith))) ∙ none_left i (omega arith))

  pub none_each : (i : ℕ) → i < n → f (s i) ≡ false
  none_each i h = not_first _ _ (sym (ap (any f) (from_next s i n few h)) ∙ none_left i (omega arith))

-- A field of the timers is read along its array.
module _ {X : Type 0} (g : Timer → X) (s : ℕ → Timer) (xs : List X) (d : X) (each : (j : ℕ) → g (s j) ≡ get_or xs j d) where
  along : (i n : ℕ) → i + n ≤ length xs → i + n ≤ 256 → map g (from s i n) ≡ take n (drop i xs)
  along i zero long few = refl
  along i (suc n) long few =
      let low : i % 256 ≡ i = mod-eq_of_lt (omega arith) in
      ap₂ (λ (x : X) (ys : List X). x ∷ ys) (ap (λ (j : ℕ). g (s j)) low ∙ each i) (along (suc i) n (omega arith) (omega arith))
      ∙ sym (ap (take (suc n)) (drop-cons xs i d (omega arith)))

  pub array_read : (n : ℕ) → n ≤ length xs → n ≤ 256 → map g (from s 0 n) ≡ take n xs
  array_read n long few = along 0 n (omega arith) (omega arith)

-- A test of one field along its array is the test along the timers.
module _ {X : Type 0} (p : X → Bool) (g : Timer → X) where
  pub all_along : (ts : List Timer) (xs : List X) → map g ts ≡ xs → list_all p xs ≡ not (any (λ (x : Timer). not (p (g x))) ts)
  all_along ts xs e = ap (list_all p) (sym e) ∙ list_all-map p g ts ∙ none_amiss (λ (x : Timer). p (g x)) ts

  pub some_along : (ts : List Timer) (xs : List X) → map g ts ≡ xs → list_any p xs ≡ any (λ (x : Timer). p (g x)) ts
  some_along ts xs e = ap (list_any p) (sym e) ∙ go ts
    where
      go : (ts : List Timer) → list_any p (map g ts) ≡ any (λ (x : Timer). p (g x)) ts
      go [] = refl
      go (x ∷ ts) = ap (λ (b : Bool). p (g x) || b) (go ts)

-- timers that are changed slot by slot are changed one by one
pub from_map : (g : Timer → Timer) (s : ℕ → Timer) (p n : ℕ) → from (λ (k : ℕ). g (s k)) p n ≡ map g (from s p n)
from_map g s p zero = refl
from_map g s p (suc n) = ap (λ (q : List Timer). g (s (p % 256)) ∷ q) (from_map g s (suc p) n)

abbrev pub untimely : Timer → Bool
untimely x = not (time_fits x.at)

-- times that fit, none below the one before it or the first below t
abbrev pub on_time : Float → List Timer → Bool
on_time t xs = not (any untimely xs) && not (falls t xs)

module _ (t : Float) {xs ys : List Timer} {x : Timer} {b : Bool} (inv : on_time t xs ≡ b) (e : xs ≡ x ∷ ys) where
  abbrev turn : Bool → Bool → Bool
  turn fits below = not (not fits || any untimely ys) && not (below || falls x.at ys)

  turned : {fits below : Bool} → time_fits x.at ≡ fits → lt x.at t ≡ below → b ≡ turn fits below
  turned h l = sym inv ∙ ap (on_time t) e ∙ ap₂ turn h l

  pub no_time : time_fits x.at ≡ false → false ≡ b
  no_time h = sym (turned h refl)

  pub fallen : lt x.at t ≡ true → false ≡ b
  fallen l = sym (turned refl l ∙ and-false (not (untimely x || any untimely ys)))

  pub later : time_fits x.at ≡ true → lt x.at t ≡ false → on_time x.at ys ≡ b
  later h l = sym (turned h l)

pub all_on_time : (t : Float) {xs : List Timer} {b : Bool} → on_time t xs ≡ b → xs ≡ [] → true ≡ b
all_on_time t inv e = sym (ap (on_time t) e) ∙ inv
