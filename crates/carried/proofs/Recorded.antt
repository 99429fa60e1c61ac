-- The counts that recorded cells hold: a list of columns is known by its length and by its cells, so tables that agree there record the same, and a table
-- whose cells show a list of markings records that list. A cell gives the count that it shows back, since a float holds whole numbers up to 2^53.
use Rattle.std.proofs.Common.{◌≡◌, ℕ, zero, suc, ◌+◌, ◌*◌, ◌^◌, ◌<◌, ◌≤◌, List, [], ◌∷◌, ◌++◌, length, get_or, sym, refl, ap, ◌∙◌, ap₂, le_of_suc-le-suc, not-suc-le-zero, add-zero, add-suc, suc-add, zero-add, arith, ext_get_or}
use lib.Ieee.{Float, nan, binary64}
use lib.Ieee.Back.{unsigned_back}
use Rattle.net.specs.Net.{Marking, numbered, held}
use Rattle.net.proofs.Lengths.{numbered_length}
use Rattle.rules.specs.Propensity.{float}
use Rattle.engine.proofs.OneWay.{count_fits}
use Rattle.carried.specs.Records.{count_in, counts_from, recorded_from, recorded_in}

pub count_in_float : (k : ℕ) → k ≤ 2 ^ 53 → count_in (float k) ≡ k
count_in_float k h = (unsigned_back binary64 64 k (count_fits k h) (omega arith)).1

-- ---- what k numbers have, from number j on

module _ {A : Type 0} (f : ℕ → A) where
  numbered_at : (j k i : ℕ) (d : A) → i < k → get_or (numbered f j k) i d ≡ f (j + i)
  numbered_at j zero i d h = absurd (not-suc-le-zero h)
  numbered_at j (suc k) zero d h = ap f (sym (add-zero j))
  numbered_at j (suc k) (suc i) d h = numbered_at (suc j) k i d (le_of_suc-le-suc h) ∙ ap f (suc-add j i ∙ sym (add-suc j i))

  numbered_append : (j r k : ℕ) → numbered f j (r + k) ≡ numbered f j r ++ numbered f (j + r) k
  numbered_append j zero k = rw (zero-add k, add-zero j)
  numbered_append j (suc r) k = rw (suc-add r k, add-suc j r, ← suc-add j r) (ap (λ (xs : List A). f j ∷ xs) (numbered_append (suc j) r k))

  numbered_is : (j : ℕ) (xs : List A) (d : A) → ((i : ℕ) → i < length xs → f (j + i) ≡ get_or xs i d) → numbered f j (length xs) ≡ xs
  numbered_is j xs d h =
      ext_get_or d _ xs (numbered_length f j (length xs))
      (λ i l. let k : i < length xs = omega (arith, numbered_length f j (length xs)) in numbered_at j (length xs) i d k ∙ h i k)

-- ---- the counts of the places at instant i, and those at k instants from instant i on

abbrev cell : ℕ → List Float → ℕ → ℕ → ℕ
cell n table i p = count_in (get_or table (p * n + i) nan)

column_numbered : (n : ℕ) (table : List Float) (i p k : ℕ) → counts_from n table i p k ≡ numbered (cell n table i) p k
column_numbered n table i p zero = refl
column_numbered n table i p (suc k) = ap (λ (m : Marking). cell n table i p ∷ m) (column_numbered n table i (suc p) k)

module _ (places n : ℕ) (table : List Float) where
  abbrev column : ℕ → Marking
  column i = counts_from n table i 0 places

  column_is : (i : ℕ) (m : Marking) → length m ≡ places → ((p : ℕ) → p < places → cell n table i p ≡ held m p) → column i ≡ m
  column_is i m e h =
      column_numbered n table i 0 places
      ∙ ap (numbered (cell n table i) 0) (sym e)
      ∙ numbered_is (cell n table i) 0 m 0 (λ p l. ap (cell n table i) (zero-add p) ∙ h p (omega arith))

  columns_numbered : (i k : ℕ) → recorded_from places n table i k ≡ numbered column i k
  columns_numbered i zero = refl
  columns_numbered i (suc k) = ap (λ (ms : List Marking). column i ∷ ms) (columns_numbered (suc i) k)

  columns_are : (i k : ℕ) (shown : List Marking) → length shown ≡ k → ((j : ℕ) → j < k → length (get_or shown j []) ≡ places)
      → ((p j : ℕ) → p < places → j < k → cell n table (i + j) p ≡ held (get_or shown j []) p) → recorded_from places n table i k ≡ shown
  columns_are i k shown e wide cells =
      columns_numbered i k
      ∙ ap (numbered column i) (sym e)
      ∙ numbered_is column i shown []
      (λ j h. column_is (i + j) (get_or shown j []) (wide j (omega arith)) (λ p l. cells p j l (omega arith)))

  -- ---- for callers

  pub recorded_long : (r : ℕ) → length (recorded_in places n table r) ≡ r
  recorded_long r = ap length (columns_numbered 0 r) ∙ numbered_length column 0 r

  pub recorded_at : (r i : ℕ) → i < r → get_or (recorded_in places n table r) i [] ≡ counts_from n table i 0 places
  recorded_at r i h = ap (λ (ms : List Marking). get_or ms i []) (columns_numbered 0 r) ∙ numbered_at column 0 r i [] h ∙ ap column (zero-add i)

  pub recorded_wide : (r i : ℕ) → i < r → length (get_or (recorded_in places n table r) i []) ≡ places
  recorded_wide r i h =
      ap length (recorded_at r i h ∙ column_numbered n table i 0 places) ∙ numbered_length (cell n table i) 0 places

  pub recorded_held : (r p i : ℕ) → p < places → i < r → held (get_or (recorded_in places n table r) i []) p ≡ count_in (get_or table (p * n + i) nan)
  recorded_held r p i h l =
      ap (λ (m : Marking). held m p) (recorded_at r i l ∙ column_numbered n table i 0 places)
      ∙ numbered_at (cell n table i) 0 places p 0 h
      ∙ ap (cell n table i) (zero-add p)

  pub recorded_append : (r k : ℕ) → recorded_in places n table (r + k) ≡ recorded_in places n table r ++ recorded_from places n table r k
  recorded_append r k =
      columns_numbered 0 (r + k)
      ∙ numbered_append column 0 r k
      ∙ sym (ap₂ ◌++◌ (columns_numbered 0 r) (columns_numbered r k ∙ ap (λ (i : ℕ). numbered column i k) (sym (zero-add r))))

  -- cells that show markings of the places, with counts up to 2^53
  pub columns_shown : (i k : ℕ) (shown : List Marking) → length shown ≡ k → ((j : ℕ) → j < k → length (get_or shown j []) ≡ places)
      → ((p j : ℕ) → p < places → j < k → held (get_or shown j []) p ≤ 2 ^ 53)
      → ((p j : ℕ) → p < places → j < k → get_or table (p * n + (i + j)) nan ≡ float (held (get_or shown j []) p))
      → recorded_from places n table i k ≡ shown
  columns_shown i k shown e wide small shows = columns_are i k shown e wide (λ p j h l. ap count_in (shows p j h l) ∙ count_in_float _ (small p j h l))

  pub recorded_shown : (r : ℕ) (shown : List Marking) → length shown ≡ r → ((i : ℕ) → i < r → length (get_or shown i []) ≡ places)
      → ((p i : ℕ) → p < places → i < r → held (get_or shown i []) p ≤ 2 ^ 53)
      → ((p i : ℕ) → p < places → i < r → get_or table (p * n + i) nan ≡ float (held (get_or shown i []) p))
      → recorded_in places n table r ≡ shown
  recorded_shown r shown e wide small shows =
      columns_shown 0 r shown e wide small (λ p i h l. ap (λ (j : ℕ). get_or table (p * n + j) nan) (zero-add i) ∙ shows p i h l)

-- tables whose recorded cells are the same
pub recorded_same : (places n : ℕ) (table other : List Float) (r : ℕ)
    → ((p i : ℕ) → p < places → i < r → get_or table (p * n + i) nan ≡ get_or other (p * n + i) nan)
    → recorded_in places n table r ≡ recorded_in places n other r
recorded_same places n table other r same =
    columns_are places n table 0 r (recorded_in places n other r) (recorded_long places n other r) (recorded_wide places n other r)
    (λ p i h l. ap (λ (j : ℕ). cell n table j p) (zero-add i) ∙ ap count_in (same p i h l) ∙ sym (recorded_held places n other r p i h l))
