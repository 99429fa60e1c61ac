-- The choice of a jump against Gillespie's. Running sums of numbers that are not negative never go down, and a zero leaves them as they are. So the first
-- positive propensity whose running sum reaches r is the one place where the running sum crosses r.
use Prim.Native.Nat.{ℕ, zero, suc, ◌+◌, ◌≤◌, ◌<◌}
use mathlib.Core.Path.{◌≡◌, refl, sym, ap, ◌∙◌}
use mathlib.Core.Bool.{Bool, true, false, ◌&&◌, true≢false}
use mathlib.Core.Logic.{◌⊎◌, inl, inr}
use mathlib.Core.List.{List, [], ◌∷◌}
use mathlib.Core.Option.{Option, none, some}
use native.Mathlib.Omega.{arith}
use native.Mathlib.Decide.{dec_lt}
use lib.Dec.{T}
use lib.ListN.{length, get_or, take}
use lib.Ieee.{Float, nan, binary64, add, of_bits, lt, le, fits, is_nan}
use lib.Ieee.Fits.{add-fits}
use lib.Ieee.Bits.{of_bits-fits}
use Rattle.net.specs.Net.{pick, zero64}
use Rattle.rules.specs.Propensity.{summed}
use Rattle.rules.specs.Jump.{chosen_from, chosen}
use Rattle.rules.specs.Gillespie.{sum_to, Gillespie, FirstPositive, Only, NoneNegative, SameAboveZero, FirstAtZero, NoneAtZero}
use Rattle.rules.proofs.Order.{lt_asym, lt_le, not_le, le_trans, le_refl, lt_le_of, le_nan_r}
use Rattle.rules.proofs.Rounded.{Plus}
use Rattle.rules.proofs.Sums.{not_negative, plus_not_nan, plus_above, add_plus, add_grows, add_stays}
use Rattle.rules.proofs.Detours.{chosen_some}

-- ---- a running sum

pub record Running (s : Float) : Type 0 where
  pub plus : Plus s
  pub held : T (fits binary64 s)

none_yet : Running zero64
unfolding of_bits
none_yet = record { plus = refl; held = of_bits-fits binary64 0 }

more : (s x : Float) → Running s → le zero64 x ≡ true → Running (add binary64 s x)
more s x h p = record { plus = add_plus binary64 s x h.plus (not_negative x p); held = add-fits binary64 s x }

grows : (s x : Float) → Running s → le zero64 x ≡ true → le s (add binary64 s x) ≡ true
grows s x h p = add_grows binary64 s x h.plus h.held (not_negative x p)

stays : (s x : Float) → Running s → le zero64 x ≡ true → lt zero64 x ≡ false → le (add binary64 s x) s ≡ true
stays s x h p z = add_stays binary64 s x h.plus h.held (not_negative x p) z

-- ---- order

same_not_below : (a : Float) → lt a a ≡ true → ⊥
same_not_below a p = true≢false (sym p ∙ lt_asym a a p)

-- a < r ≤ b ≤ a
crossed : (a b r : Float) → lt a r ≡ true → le r b ≡ true → le b a ≡ true → ⊥
crossed a b r p q h = same_not_below a (lt_le a r a p (le_trans r b a q h))

-- a number above something is no NaN
above_number : (a r : Float) → lt a r ≡ true → is_nan r ≡ false
above_number a r p = le_nan_r a r (lt_le_of a r p)

not_reached : (a b r : Float) → lt a r ≡ true → Running b → le r b ≡ false → lt b r ≡ true
not_reached a b r p h q = not_le r b (above_number a r p) (plus_not_nan b h.plus) q

-- ---- sums of the first numbers go up

from_start : (s : Float) (xs : List Float) (k : ℕ) → Running s → NoneNegative xs → le s (summed s (take k xs)) ≡ true
from_start s xs zero h p = le_refl s (plus_not_nan s h.plus)
from_start s [] (suc k) h p = le_refl s (plus_not_nan s h.plus)
from_start s (x ∷ xs) (suc k) h p =
    le_trans s (add binary64 s x) (summed (add binary64 s x) (take k xs)) (grows s x h p.0) (from_start (add binary64 s x) xs k (more s x h p.0) p.1)

sums_up : (s : Float) (xs : List Float) (i k : ℕ) → Running s → NoneNegative xs → i ≤ k → le (summed s (take i xs)) (summed s (take k xs)) ≡ true
sums_up s xs zero k h p l = from_start s xs k h p
sums_up s xs (suc i) zero h p l = absurd (omega arith)
sums_up s [] (suc i) (suc k) h p l = le_refl s (plus_not_nan s h.plus)
sums_up s (x ∷ xs) (suc i) (suc k) h p l = sums_up (add binary64 s x) xs i k (more s x h p.0) p.1 (omega arith)

-- so r is crossed once
not_before : (r : Float) (xs : List Float) → NoneNegative xs → (i j : ℕ) → Gillespie r xs i → Gillespie r xs j → i < j → ⊥
not_before r xs p i j a b l = crossed (sum_to xs j) (sum_to xs (suc i)) r b.below a.reaches (sums_up zero64 xs (suc i) j none_yet p l)

alike : (i j : ℕ) → (i < j → ⊥) → (j < i → ⊥) → i ≡ j
alike i j h k = go (dec_lt i j) (dec_lt j i)
  where
    go : Dec (i < j) → Dec (j < i) → i ≡ j
    go (yes a) d = absurd (h a)
    go (no a) (yes b) = absurd (k b)
    go (no a) (no b) = omega arith

pub gillespie_once : (r : Float) (xs : List Float) → NoneNegative xs → (i j : ℕ) → Gillespie r xs i → Gillespie r xs j → i ≡ j
gillespie_once r xs p i j a b = alike i j (not_before r xs p i j a b) (not_before r xs p j i b a)

-- ---- above 0

-- the crossing of r by the running sums that go on from s, with xs left
record Crossing (r s : Float) (xs : List Float) (i : ℕ) : Type 0 where
  inside : i < length xs
  below : lt (summed s (take i xs)) r ≡ true
  reaches : le r (summed s (take (suc i) xs)) ≡ true

Found : Float → Float → ℕ → Option ℕ → List Float → Type 0
Found r s j last xs = (i : ℕ) × (chosen_from r s j last xs ≡ some (j + i)) × Crossing r s xs i

found_here : (r s : Float) (j : ℕ) (last : Option ℕ) (x : Float) (xs : List Float) → lt s r ≡ true → lt zero64 x ≡ true → le r (add binary64 s x) ≡ true
    → Found r s j last (x ∷ xs)
unfolding Found
found_here r s j last x xs b p q =
    let z : some j ≡ some (j + 0) = ap some (omega arith) in
    (0, rw (p, q) z, record { inside = omega arith; below = b; reaches = q })

found_later : (r s : Float) (j : ℕ) (last : Option ℕ) (x : Float) (xs : List Float) → le r (add binary64 s x) ≡ false
    → Found r (add binary64 s x) (suc j) (pick (lt zero64 x) (some j) last) xs → Found r s j last (x ∷ xs)
unfolding Found
found_later r s j last x xs q w = (suc w.0, go (lt zero64 x) w.1 ∙ ap some (shift j w.0), record { inside = within w.2.inside; below = w.2.below; reaches = w.2.reaches })
  where
    shift : (j i : ℕ) → suc j + i ≡ j + suc i
    shift j i = omega arith

    within : {i : ℕ} → i < length xs → suc i < suc (length xs)
    within h = omega arith

    go : (c : Bool) → {o : Option ℕ} → chosen_from r (add binary64 s x) (suc j) (pick c (some j) last) xs ≡ o
        → pick (c && le r (add binary64 s x)) (some j) (chosen_from r (add binary64 s x) (suc j) (pick c (some j) last) xs) ≡ o
    go true h = rw q h
    go false h = h

found : (r s : Float) (j : ℕ) (last : Option ℕ) (xs : List Float) → Running s → NoneNegative xs → lt s r ≡ true → le r (summed s xs) ≡ true → Found r s j last xs
found r s j last [] h p b q = absurd (crossed s s r b q (le_refl s (plus_not_nan s h.plus)))
found r s j last (x ∷ xs) h p b q =
    go (le r (add binary64 s x)) refl (lt zero64 x) refl
    (λ b'. found r (add binary64 s x) (suc j) (pick (lt zero64 x) (some j) last) xs (more s x h p.0) p.1 b' q)
  where
    go : (c : Bool) → le r (add binary64 s x) ≡ c → (d : Bool) → lt zero64 x ≡ d
        → (lt (add binary64 s x) r ≡ true → Found r (add binary64 s x) (suc j) (pick (lt zero64 x) (some j) last) xs)
        → Found r s j last (x ∷ xs)
    go true e true f ih = found_here r s j last x xs b f e
    go true e false f ih = absurd (crossed s (add binary64 s x) r b e (stays s x h p.0 f))
    go false e d f ih = found_later r s j last x xs e (ih (not_reached s (add binary64 s x) r b (more s x h p.0) e))

pub same_above_zero : SameAboveZero
unfolding Found
same_above_zero r xs p b q =
    let w = found r zero64 0 none xs none_yet p b q in
    let g : Gillespie r xs w.0 = record { inside = w.2.inside; below = w.2.below; reaches = w.2.reaches } in
    record {
      which = w.0;
      is = w.1 ∙ ap some (start w.0);
      meets = g;
      alone = λ j a. gillespie_once r xs p j w.0 a g;
    }
  where
    start : (i : ℕ) → 0 + i ≡ i
    start i = omega arith

-- where r is crossed, a positive number is added
crossing_positive : (r s : Float) (xs : List Float) (i : ℕ) → Running s → NoneNegative xs → Crossing r s xs i → lt zero64 (get_or xs i nan) ≡ true
crossing_positive r s [] i h p c = absurd (omega (arith, c.inside))
crossing_positive r s (x ∷ xs) zero h p c = go (lt zero64 x) refl
  where
    go : (b : Bool) → lt zero64 x ≡ b → b ≡ true
    go true e = refl
    go false e = absurd (crossed s (add binary64 s x) r c.below c.reaches (stays s x h p.0 e))
crossing_positive r s (x ∷ xs) (suc i) h p c =
    crossing_positive r (add binary64 s x) xs i (more s x h p.0) p.1 (record { inside = omega (arith, c.inside); below = c.below; reaches = c.reaches })

pub gillespie_positive : (r : Float) (xs : List Float) → NoneNegative xs → (j : ℕ) → Gillespie r xs j → lt zero64 (get_or xs j nan) ≡ true
gillespie_positive r xs p j g = crossing_positive r zero64 xs j none_yet p (record { inside = g.inside; below = g.below; reaches = g.reaches })

pub zero_below_sum : (xs : List Float) → NoneNegative xs → (j : ℕ) → le zero64 (sum_to xs j) ≡ true
zero_below_sum xs p j = from_start zero64 xs j none_yet p

-- ---- at 0

First : Float → ℕ → Option ℕ → List Float → Type 0
First s j last xs = ((i : ℕ) × (chosen_from zero64 s j last xs ≡ some (j + i)) × FirstPositive xs i) ⊎ (chosen_from zero64 s j last xs ≡ last)

first_later : (x : Float) (xs : List Float) (i : ℕ) → lt zero64 x ≡ false → FirstPositive xs i → FirstPositive (x ∷ xs) (suc i)
first_later x xs i e f = record { inside = omega (arith, f.inside); positive = f.positive; before = go }
  where
    go : (k : ℕ) → k < suc i → lt zero64 (get_or (x ∷ xs) k nan) ≡ false
    go zero h = e
    go (suc k) h = f.before k (omega arith)

first_from : (s : Float) (j : ℕ) (last : Option ℕ) (xs : List Float) → Running s → NoneNegative xs → First s j last xs
unfolding First
first_from s j last [] h p = inr refl
first_from s j last (x ∷ xs) h p = go (lt zero64 x) refl (first_from (add binary64 s x) (suc j) last xs (more s x h p.0) p.1)
  where
    shift : (j i : ℕ) → suc j + i ≡ j + suc i
    shift j i = omega arith

    reached : le zero64 (add binary64 s x) ≡ true
    reached = plus_above (add binary64 s x) (more s x h p.0).plus

    go : (c : Bool) → lt zero64 x ≡ c → First (add binary64 s x) (suc j) last xs → First s j last (x ∷ xs)
    go true e ih =
        let z : some j ≡ some (j + 0) = ap some (omega arith) in
        inl (0, rw (e, reached) z, record { inside = omega arith; positive = e; before = λ i l. absurd (omega arith) })
    go false e (inl w) = inl (suc w.0, rw e (w.1 ∙ ap some (shift j w.0)), first_later x xs w.0 e w.2)
    go false e (inr w) = inr (rw e w)

not_first : (xs : List Float) (i j : ℕ) → FirstPositive xs i → FirstPositive xs j → i < j → ⊥
not_first xs i j a b l = true≢false (sym a.positive ∙ b.before i l)

pub first_once : (xs : List Float) (i j : ℕ) → FirstPositive xs i → FirstPositive xs j → i ≡ j
first_once xs i j a b = alike i j (not_first xs i j a b) (not_first xs j i b a)

pub first_at_zero : FirstAtZero
unfolding First
first_at_zero xs p a = go (first_from zero64 0 none xs none_yet p)
  where
    start : (i : ℕ) → 0 + i ≡ i
    start i = omega arith

    go : First zero64 0 none xs → Only (chosen zero64 xs) (FirstPositive xs)
    go (inl w) = record { which = w.0; is = w.1 ∙ ap some (start w.0); meets = w.2; alone = λ j b. first_once xs j w.0 b w.2 }
    go (inr w) = absurd (chosen_some zero64 xs a w)

pub none_at_zero : NoneAtZero
none_at_zero xs p j g =
    crossed (sum_to xs j) zero64 zero64 g.below (le_refl zero64 (plus_not_nan zero64 none_yet.plus)) (from_start zero64 xs j none_yet p)
