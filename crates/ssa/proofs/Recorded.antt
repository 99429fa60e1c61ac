-- Recorded cells and the last 4. A cell that shows a count of at most 2^53 is a whole number in 0..2^53, and such a cell holds at most 2^53.
-- The test of all recorded cells is not met exactly where each of them fits.
use Prim.Native.Nat.{ℕ, zero, suc, ◌+◌, ◌*◌, ◌^◌, ◌≤◌, ◌<◌}
use mathlib.Core.Path.{◌≡◌, refl, sym, ap, subst, ◌∙◌}
use mathlib.Core.Bool.{Bool, true, false, not, ◌&&◌}
use mathlib.Core.List.{List, [], ◌∷◌}
use native.Mathlib.Omega.{arith}
use native.Mathlib.Nat.{not-suc-le-zero, zero-add, add-zero}
use lib.Dec.{T}
use lib.ListN.{length, get_or, drop, length-take, length-drop}
use lib.Seq.{length-take-le, get_or-take, get_or-drop}
use lib.Ieee.{Float, nan, binary64, le, eq, ne, is_nan, of_int, of_bits, round}
use lib.Ieee.Bits.{is_true}
use lib.Ieee.Compare.{differs_from_itself}
use lib.Ieee.Order.{round_mono}
use borrow.Author.Tests.{not-false}
use Rattle.net.specs.Net.{zero64}
use Rattle.net.specs.Tests.{any}
use Rattle.rules.specs.Propensity.{float}
use Rattle.rules.specs.Change.{cell_fits}
use Rattle.rules.proofs.Order.{both, neither, le_nan_r}
use Rattle.carried.specs.Records.{some_strange, record_of, strange_from, record_strange, count_in}
use Rattle.carried.proofs.Cells.{most, small, cells_in}
use Rattle.carried.proofs.Recorded.{count_in_float}

-- cell p × n + i of a table
abbrev pub cell_in : ℕ → List Float → ℕ → ℕ → Float
cell_in n t p i = get_or t (p * n + i) nan

-- ---- one cell

float_grows : (m n : ℕ) → m ≤ n → le (float m) (float n) ≡ true
unfolding of_int
float_grows m n h = is_true _ (round_mono binary64 m 1 n 1 (omega arith) (omega arith) (omega arith))

float_zero : float 0 ≡ zero64
unfolding of_int round of_bits
float_zero = refl

most_is : float (2 ^ 53) ≡ most
unfolding of_int round of_bits
most_is = refl

self_equal : (x : Float) → is_nan x ≡ false → eq x x ≡ true
unfolding ne is_nan
self_equal x h = go (eq x x) refl
  where
    go : (b : Bool) → eq x x ≡ b → b ≡ true
    go true e = refl
    go false e = sym h ∙ ap is_nan (differs_from_itself x (subst T (sym (ap not e)) tt))

-- a cell that shows a count
pub float_fits : (k : ℕ) → k ≤ 2 ^ 53 → cell_fits (float k) ≡ true
float_fits k h =
    let low : le zero64 (float k) ≡ true = ap (λ (x : Float). le x (float k)) (sym float_zero) ∙ float_grows 0 k (omega arith) in
    rw (low, float_grows k (2 ^ 53) h, count_in_float k h) (self_equal (float k) (le_nan_r zero64 (float k) low))

-- a cell that fits
pub fit_count : (x : Float) → cell_fits x ≡ true → count_in x ≤ 2 ^ 53
fit_count x h =
    let w = both (le zero64 x && le x (float (2 ^ 53))) (eq x (float (count_in x))) h in
    let v = both (le zero64 x) (le x (float (2 ^ 53))) w.0 in
    small x v.0 (ap (le x) (sym most_is) ∙ v.1)

-- ---- all recorded cells

module _ {A : Type 0} (f : A → Bool) (d : A) where
  none_of_each : (xs : List A) → ((i : ℕ) → i < length xs → f (get_or xs i d) ≡ false) → any f xs ≡ false
  none_of_each [] h = refl
  none_of_each (x ∷ xs) h = rw (h 0 (omega arith)) (none_of_each xs (λ i l. h (suc i) (omega arith)))

  each_of_none : (xs : List A) → any f xs ≡ false → (i : ℕ) → i < length xs → f (get_or xs i d) ≡ false
  each_of_none [] h i l = absurd (not-suc-le-zero l)
  each_of_none (x ∷ xs) h zero l = (neither (f x) (any f xs) h).0
  each_of_none (x ∷ xs) h (suc i) l = each_of_none xs (neither (f x) (any f xs) h).1 i (omega arith)

-- n cells a place, the first r of them recorded
module _ (n r : ℕ) (t : List Float) where
  recorded_cell : (p i : ℕ) → i < r → get_or (record_of n r t p) i nan ≡ cell_in n t p i
  recorded_cell p i l = get_or-take r (drop (p * n) t) i nan l ∙ get_or-drop (p * n) t i nan

  all_fine : (p k : ℕ) → ((q : ℕ) → p ≤ q → q < p + k → some_strange (record_of n r t q) ≡ false) → strange_from n r t p k ≡ false
  all_fine p zero h = refl
  all_fine p (suc k) h = rw (h p (omega arith) (omega arith)) (all_fine (suc p) k (λ q a b. h q (omega arith) (omega arith)))

  each_fine : (p k : ℕ) → strange_from n r t p k ≡ false → (q : ℕ) → q < k → some_strange (record_of n r t (p + q)) ≡ false
  each_fine p zero h q l = absurd (not-suc-le-zero l)
  each_fine p (suc k) h zero l = rw (add-zero p) (neither (some_strange (record_of n r t p)) (strange_from n r t (suc p) k) h).0
  each_fine p (suc k) h (suc q) l =
      let e : p + suc q ≡ suc p + q = omega arith in
      rw e (each_fine (suc p) k (neither (some_strange (record_of n r t p)) (strange_from n r t (suc p) k) h).1 q (omega arith))

  -- the last 4 is not met
  pub not_strange : (places : ℕ) → ((p i : ℕ) → p < places → i < r → cell_fits (cell_in n t p i) ≡ true) → record_strange places n r t ≡ false
  not_strange places h = all_fine 0 places (λ q a b. none_of_each (λ (x : Float). not (cell_fits x)) nan (record_of n r t q) (λ i l.
      let few : i < r = omega (arith, length-take r (drop (q * n) t)) in
      ap (λ (x : Float). not (cell_fits x)) (recorded_cell q i few) ∙ ap not (h q i (omega arith) few)))

  pub cells_fit : (places : ℕ) → places * n ≤ length t → r ≤ n → record_strange places n r t ≡ false
      → (p i : ℕ) → p < places → i < r → cell_fits (cell_in n t p i) ≡ true
  cells_fit places room few h p i a l =
      let fine : some_strange (record_of n r t p) ≡ false = rw zero-add at (each_fine 0 places h p a) in
      let long = length-take-le r (drop (p * n) t) (omega (arith, length-drop (p * n) t, cells_in p places n r a few)) in
      ap cell_fits (sym (recorded_cell p i l))
      ∙ not-false _ (each_of_none (λ (x : Float). not (cell_fits x)) nan (record_of n r t p) fine i (omega (arith, long)))
