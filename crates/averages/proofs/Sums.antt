-- What a run of the loops leaves in a table. A table whose first k cells are the sums over some paths holds, after one path more, the sums over
-- these and that one; the means and the deviations are made of them cell by cell. Assumes nothing.
use Rattle.std.proofs.Common.{◌≡◌, ℕ, zero, suc, ◌+◌, ◌<◌, ◌≤◌, Bool, List, [], ◌∷◌, ◌++◌, length, get_or, drop, replicate, sym, refl, ap, ◌∙◌, le_of_suc-le-suc, not-suc-le-zero, arith, length-append, length-drop, drop-cons, eq-eqb, ne_eqb}
use lib.Ieee.{Float, nan}
use Rattle.net.specs.Net.{pick, zero64}
use Rattle.rules.specs.Propensity.{float}
use Rattle.averages.specs.Front.{on_front, with_front}
use Rattle.averages.specs.Moments.{plus, plus_square, summed_up, mean_of, mean_at, deviation_of, deviation_at, cells_from, table_by}

-- ---- cells

pub cells_from_length : (g : ℕ → Float) (c k : ℕ) → length (cells_from g c k) ≡ k
cells_from_length g c zero = refl
cells_from_length g c (suc k) = ap suc (cells_from_length g (suc c) k)

pub table_by_length : (g : ℕ → Float) (k : ℕ) (xs : List Float) → k ≤ length xs → length (table_by g k xs) ≡ length xs
table_by_length g k xs h =
    length-append (cells_from g 0 k) (drop k xs)
    ∙ omega (arith, cells_from_length g 0 k, length-drop k xs)

pub cells_same : (g h : ℕ → Float) (c k : ℕ) → ((j : ℕ) → g j ≡ h j) → cells_from g c k ≡ cells_from h c k
cells_same g h c zero e = refl
cells_same g h c (suc k) e = ap (λ (x : Float). x ∷ cells_from g (suc c) k) (e c) ∙ ap (λ (l : List Float). h c ∷ l) (cells_same g h (suc c) k e)

-- ---- a loop over cells

pub on_front_const : (z : Float) (k : ℕ) (xs : List Float) → k ≤ length xs → on_front (λ (x : Float). z) k xs ≡ replicate k z ++ drop k xs
on_front_const z zero xs h = refl
on_front_const z (suc k) [] h = absurd (not-suc-le-zero h)
on_front_const z (suc k) (x ∷ xs) h = ap (λ (l : List Float). z ∷ l) (on_front_const z k xs (le_of_suc-le-suc h))

pub on_front_set : (z : Float) (c k : ℕ) (xs : List Float) → k ≤ length xs
    → on_front (λ (x : Float). z) k xs ≡ cells_from (λ (j : ℕ). z) c k ++ drop k xs
on_front_set z c zero xs h = refl
on_front_set z c (suc k) [] h = absurd (not-suc-le-zero h)
on_front_set z c (suc k) (x ∷ xs) h = ap (λ (l : List Float). z ∷ l) (on_front_set z (suc c) k xs (le_of_suc-le-suc h))

pub on_front_cells : (f : Float → Float) (g : ℕ → Float) (c k : ℕ) (rest : List Float)
    → on_front f k (cells_from g c k ++ rest) ≡ cells_from (λ (j : ℕ). f (g j)) c k ++ rest
on_front_cells f g c zero rest = refl
on_front_cells f g c (suc k) rest = ap (λ (l : List Float). f (g c) ∷ l) (on_front_cells f g (suc c) k rest)

-- with a table whose first cells are known too
pub with_front_cells : (f : Float → Float → Float) (g h : ℕ → Float) (c k : ℕ) (others rest : List Float)
    → with_front f k (cells_from h c k ++ others) (cells_from g c k ++ rest) ≡ cells_from (λ (j : ℕ). f (g j) (h j)) c k ++ rest
with_front_cells f g h c zero others rest = refl
with_front_cells f g h c (suc k) others rest = ap (λ (l : List Float). f (g c) (h c) ∷ l) (with_front_cells f g h (suc c) k others rest)

-- with any table that is long enough
with_path : (f : Float → Float → Float) (g : ℕ → Float) (v : List Float) (c k : ℕ) (rest : List Float) → c + k ≤ length v
    → with_front f k (drop c v) (cells_from g c k ++ rest) ≡ cells_from (λ (j : ℕ). f (g j) (get_or v j nan)) c k ++ rest
with_path f g v c zero rest h = refl
with_path f g v c (suc k) rest h =
    let l : c < length v = omega arith in
    ap (λ (d : List Float). with_front f (suc k) d (cells_from g c (suc k) ++ rest)) (drop-cons v c nan l)
    ∙ ap (λ (r : List Float). f (g c) (get_or v c nan) ∷ r) (with_path f g v (suc c) k rest (omega arith))

-- ---- sums

pub summed_up_more : (f : Float → Float → Float) (c : ℕ) (z : Float) (paths : List (List Float)) (v : List Float)
    → summed_up f c z (paths ++ (v ∷ [])) ≡ f (summed_up f c z paths) (get_or v c nan)
summed_up_more f c z [] v = refl
summed_up_more f c z (p ∷ paths) v = summed_up_more f c (f z (get_or p c nan)) paths v

-- cells that are all z hold the sums over no path
pub sums_start : (f : Float → Float → Float) (z : Float) (c k : ℕ) → replicate k z ≡ cells_from (λ (j : ℕ). summed_up f j z []) c k
sums_start f z c zero = refl
sums_start f z c (suc k) = ap (λ (l : List Float). z ∷ l) (sums_start f z (suc c) k)

-- so does a cleared table
pub sums_none : (f : Float → Float → Float) (k : ℕ) (xs : List Float) → k ≤ length xs
    → on_front (λ (x : Float). zero64) k xs ≡ table_by (λ (c : ℕ). summed_up f c zero64 []) k xs
sums_none f k xs h = on_front_set zero64 0 k xs h

-- one path more
pub sums_more : (f : Float → Float → Float) (z : Float) (k : ℕ) (paths : List (List Float)) (v rest : List Float) → k ≤ length v
    → with_front f k v (cells_from (λ (c : ℕ). summed_up f c z paths) 0 k ++ rest) ≡ cells_from (λ (c : ℕ). summed_up f c z (paths ++ (v ∷ []))) 0 k ++ rest
sums_more f z k paths v rest h =
    with_path f (λ (c : ℕ). summed_up f c z paths) v 0 k rest (omega arith)
    ∙ ap (λ (l : List Float). l ++ rest)
    (cells_same (λ (j : ℕ). f (summed_up f j z paths) (get_or v j nan)) (λ (c : ℕ). summed_up f c z (paths ++ (v ∷ []))) 0 k
    (λ j. sym (summed_up_more f j z paths v)))

-- ---- means and deviations

module _ (n : Float) (paths : List (List Float)) (e : n ≡ float (length paths)) (k : ℕ) where
  pub means_made : (xs : List Float) → on_front (mean_of n) k (table_by (λ (c : ℕ). summed_up plus c zero64 paths) k xs) ≡ table_by (mean_at paths) k xs
  means_made xs =
      on_front_cells (mean_of n) (λ (c : ℕ). summed_up plus c zero64 paths) 0 k (drop k xs)
      ∙ ap (λ (l : List Float). l ++ drop k xs)
      (cells_same (λ (c : ℕ). mean_of n (summed_up plus c zero64 paths)) (mean_at paths) 0 k (λ j. ap (λ (x : Float). mean_of x (summed_up plus j zero64 paths)) e))

  -- of two paths and more, or of none
  pub deviations_made : (length paths ≡ 1 → ⊥) → (ms xs : List Float)
      → with_front (deviation_of n) k (table_by (mean_at paths) k ms) (table_by (λ (c : ℕ). summed_up plus_square c zero64 paths) k xs) ≡ table_by (deviation_at paths) k xs
  deviations_made many ms xs =
      with_front_cells (deviation_of n) (λ (c : ℕ). summed_up plus_square c zero64 paths) (mean_at paths) 0 k (drop k ms) (drop k xs)
      ∙ ap (λ (l : List Float). l ++ drop k xs)
      (cells_same (λ (c : ℕ). deviation_of n (summed_up plus_square c zero64 paths) (mean_at paths c)) (deviation_at paths) 0 k
      (λ j. ap (λ (x : Float). deviation_of x (summed_up plus_square j zero64 paths) (mean_at paths j)) e
      ∙ sym (ap (λ (b : Bool). pick b zero64 (deviation_of (float (length paths)) (summed_up plus_square j zero64 paths) (mean_at paths j))) (ne_eqb (length paths) 1 many))))

-- of one path: a cleared table
pub deviations_none : (paths : List (List Float)) (k : ℕ) (xs : List Float) → length paths ≡ 1 → k ≤ length xs
    → on_front (λ (x : Float). zero64) k xs ≡ table_by (deviation_at paths) k xs
deviations_none paths k xs one h =
    on_front_set zero64 0 k xs h
    ∙ ap (λ (l : List Float). l ++ drop k xs)
    (cells_same (λ (j : ℕ). zero64) (deviation_at paths) 0 k
    (λ j. sym (ap (λ (b : Bool). pick b zero64 (deviation_of (float (length paths)) (summed_up plus_square j zero64 paths) (mean_at paths j))) (eq-eqb (length paths) 1 one))))
