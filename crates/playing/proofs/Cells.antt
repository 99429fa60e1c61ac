-- The cells of the lent table. The cell of place p at instant i of n is p * n + i: it tells p and i apart and lies below places * n.
-- So a column that is written place by place shows the counts and leaves the others; columns in a row join; and a table whose cells
-- show a list is the table of the definition, cell by cell.
use Prim.Native.Nat.{ℕ, zero, suc, ◌+◌, ◌-◌, ◌*◌, ◌/◌, ◌%◌, max, ◌≤◌, ◌<◌}
use mathlib.Core.Path.{◌≡◌, refl, sym, ap, ◌∙◌}
use mathlib.Core.Logic.{◌⊎◌, inl, inr, ◌≢◌, ⊎_elim}
use mathlib.Core.List.{List, [], ◌∷◌, ◌++◌, map}
use native.Mathlib.Omega.{arith}
use native.Mathlib.Decide.{dec_lt}
use native.Mathlib.Nat.{suc-mul, mul-le-mul_right, mul-add-mod_self_right, mod-eq_of_lt, mod-lt, div-add-mod', not-suc-le-zero, le_of_suc-le-suc, zero-mul, mul-zero, lt_of_mul-lt-mul_right}
use native.Mathlib.Numerals.{add-one}
use borrow.Author.Count.{below_none, below_more}
use lib.ListN.{length, get_or, drop, set, replicate, length-append, length-drop, length-set, length-map, length-replicate, get_or-append}
use lib.Seq.{get_or-set_same, get_or-set_other, get_or-append-add, get_or-drop, get_or-take, ext_get_or}
use lib.Ieee.{Float, nan}
use Rattle.net.specs.Net.{Marking, zero64, held}
use Rattle.rules.specs.Propensity.{float}
use Rattle.engine.specs.Engine.{marking}
use Rattle.playing.specs.Cells.{row, rows_from, table_of, cleared, Stay, Filled}

-- ---- where a cell lies

row_end : (q p n : ℕ) → q < p → q * n + n ≤ p * n
row_end q p n h = rw suc-mul at (mul-le-mul_right n h)

pub cell_in : (p i places n : ℕ) → p < places → i < n → p * n + i < places * n
cell_in p i places n h l = omega (arith, row_end p places n h)

-- the cells of other rows lie elsewhere
row_apart : (q p n i : ℕ) → q < p → i < n → q * n + i ≢ p * n + i
row_apart q p n i h l e = omega (arith, row_end q p n h)

instant_of : (p n i : ℕ) → i < n → (p * n + i) % n ≡ i
instant_of p n i h = mul-add-mod_self_right p n i ∙ mod-eq_of_lt h

-- the cells of other instants lie elsewhere
pub same_instant : (p q n i j : ℕ) → i < n → j < n → p * n + i ≡ q * n + j → i ≡ j
same_instant p q n i j h l e = sym (instant_of p n i h) ∙ ap (λ (c : ℕ). c % n) e ∙ instant_of q n j l

-- ---- a column

-- the cells of instant i show the counts of the places below p, and all others are as they were
pub record Column (n i p : ℕ) (counts : List ℕ) (before after : List Float) : Type 0 where
  pub long : length after ≡ length before
  pub shows : (q : ℕ) → q < p → get_or after (q * n + i) nan ≡ float (get_or counts q 0)
  pub rest : (c : ℕ) → ((q : ℕ) → q < p → c ≢ q * n + i) → get_or after c nan ≡ get_or before c nan

pub column_none : (n i : ℕ) (counts : List ℕ) (t : List Float) → Column n i 0 counts t t
column_none n i counts t = record { long = refl; shows = below_none _; rest = λ c h. refl }

pub column_more : (n i p : ℕ) (counts : List ℕ) (t₀ t : List Float) → i < n → p * n + i < length t → Column n i p counts t₀ t
    → Column n i (p + 1) counts t₀ (set t (p * n + i) (float (get_or counts p 0)))
column_more n i p counts t₀ t l h m =
    let x = float (get_or counts p 0) in
    record {
      long = length-set t (p * n + i) x ∙ m.long;
      shows = below_more (λ (q : ℕ). get_or (set t (p * n + i) x) (q * n + i) nan ≡ float (get_or counts q 0)) p
          (λ q k. get_or-set_other t (p * n + i) (q * n + i) x nan (row_apart q p n i k l) ∙ m.shows q k)
          (get_or-set_same t (p * n + i) x nan h);
      rest = λ c f. get_or-set_other t (p * n + i) c x nan (f p (omega arith)) ∙ m.rest c (λ q k. f q (omega arith));
    }

not_the_column : (n i p j : ℕ) → i < n → j < n → ((j < i) ⊎ (i + 1 ≤ j)) → (q : ℕ) → p * n + j ≢ q * n + i
not_the_column n i p j l k o q e = let s : j ≡ i = same_instant p q n j i k l e in ⊎_elim (λ a. omega arith) (λ a. omega arith) o

pub column_all : (places n i : ℕ) (counts : List ℕ) (t₀ t : List Float) → i < n → Column n i places counts t₀ t → Filled places n i (i + 1) counts t₀ t
column_all places n i counts t₀ t l m =
    record {
      long = m.long;
      shows = λ p j h a b. let e : j ≡ i = omega arith in rw e (m.shows p h);
      others = λ p j h k o. m.rest (p * n + j) (λ q _. not_the_column n i p j l k o q);
      further = λ c h. m.rest c (λ q k e. omega (arith, cell_in q i places n k l));
    }

-- ---- columns in a row

pub filled_none : (places n from to : ℕ) (counts : List ℕ) (t : List Float) → to ≤ from → Filled places n from to counts t t
filled_none places n from to counts t h =
    record { long = refl; shows = λ p i a b c. absurd (omega arith); others = λ p i a b c. refl; further = λ c a. refl }

pub filled_join : (places n from mid to : ℕ) (counts : List ℕ) (t₀ t t' : List Float) → from ≤ mid → mid ≤ to → mid ≤ n
    → Filled places n from mid counts t₀ t → Filled places n mid to counts t t' → Filled places n from to counts t₀ t'
filled_join places n from mid to counts t₀ t t' u v w f g =
    record {
      long = g.long ∙ f.long;
      shows = λ p i h a b. shown p i h a b (dec_lt i mid);
      others = λ p i h k o. g.others p i h k (⊎_elim (λ a. inl (omega arith)) (λ a. inr a) o) ∙ f.others p i h k (⊎_elim (λ a. inl a) (λ a. inr (omega arith)) o);
      further = λ c h. g.further c h ∙ f.further c h;
    }
  where
    shown : (p i : ℕ) → p < places → from ≤ i → i < to → Dec (i < mid) → get_or t' (p * n + i) nan ≡ float (get_or counts p 0)
    shown p i h a b (yes y) = g.others p i h (omega arith) (inl y) ∙ f.shows p i h a y
    shown p i h a b (no z) = g.shows p i h (omega arith) b

-- where the loop over the columns stops: at `to`, or at `from` where that is no less
pub filled_end : (places n from i to : ℕ) (counts : List ℕ) (t₀ t : List Float) → to ≤ i → i ≤ max from to
    → Filled places n from i counts t₀ t → Filled places n from to counts t₀ t
filled_end places n from i to counts t₀ t u v f =
    record {
      long = f.long;
      shows = λ p j h a b. f.shows p j h a (omega arith);
      others = λ p j h k o. f.others p j h k (other j o (dec_lt j from));
      further = f.further;
    }
  where
    other : (j : ℕ) → ((j < from) ⊎ (to ≤ j)) → Dec (j < from) → (j < from) ⊎ (i ≤ j)
    other j o (yes a) = inl a
    other j o (no a) = inr (⊎_elim (λ b. absurd (a b)) (λ b. omega arith) o)

-- the counts beyond the places do not matter
pub filled_marking : (places n from to : ℕ) (counts : List ℕ) (t t' : List Float) → Filled places n from to counts t t'
    → Filled places n from to (marking places counts) t t'
filled_marking places n from to counts t t' f =
    record {
      long = f.long;
      shows = λ p i h a b. f.shows p i h a b ∙ sym (ap float (get_or-take places counts p 0 h));
      others = f.others;
      further = f.further;
    }

-- ---- cells set to +0

set_front : {A : Type 0} (n : ℕ) (v : A) (d : List A) → n < length d → set (replicate n v ++ drop n d) n v ≡ replicate (suc n) v ++ drop (suc n) d
set_front n v [] l = absurd (not-suc-le-zero l)
set_front zero v (x ∷ d) l = refl
set_front (suc n) v (x ∷ d) l = ap (λ (t : List _). v ∷ t) (set_front n v d (le_of_suc-le-suc l))

pub cleared_more : (c : ℕ) (t : List Float) → c < length t → set (cleared c t) c zero64 ≡ cleared (c + 1) t
cleared_more c t h = set_front c zero64 t h ∙ ap (λ (k : ℕ). cleared k t) (sym (add-one c))

pub cleared_long : (c : ℕ) (t : List Float) → c ≤ length t → length (cleared c t) ≡ length t
cleared_long c t h = simp (length-append, length-replicate, length-drop) (omega arith)

-- only the cells that stay matter
pub cleared_stay : (c : ℕ) (t t' : List Float) → length t' ≡ length t → ((i : ℕ) → c ≤ i → get_or t' i nan ≡ get_or t i nan) → cleared c t' ≡ cleared c t
cleared_stay c t t' e h =
    ap (λ (l : List Float). replicate c zero64 ++ l)
    (ext_get_or nan (drop c t') (drop c t) (omega (arith, length-drop c t', length-drop c t))
    (λ i l. get_or-drop c t' i nan ∙ h (c + i) (omega arith) ∙ sym (get_or-drop c t i nan)))

-- ---- the list that a table shows

-- the cells of the first instants show this list, an instant an entry
abbrev pub Shows : ℕ → ℕ → List Marking → List Float → Type 0
Shows places n shown t = (p i : ℕ) → p < places → i < length shown → get_or t (p * n + i) nan ≡ float (held (get_or shown i []) p)

-- ---- the table of a list

map_at : {A : Type 0} (f : A → Float) (xs : List A) (i : ℕ) (d : A) → i < length xs → get_or (map f xs) i nan ≡ f (get_or xs i d)
map_at f [] i d h = absurd (not-suc-le-zero h)
map_at f (x ∷ xs) zero d h = refl
map_at f (x ∷ xs) (suc i) d h = map_at f xs i d (le_of_suc-le-suc h)

pub row_long : (shown : List Marking) (p : ℕ) → length (row shown p) ≡ length shown
row_long shown p = length-map shown (λ (m : Marking). float (held m p))

pub row_at : (shown : List Marking) (p i : ℕ) → i < length shown → get_or (row shown p) i nan ≡ float (held (get_or shown i []) p)
row_at shown p i h = map_at (λ (m : Marking). float (held m p)) shown i [] h

pub rows_long : (shown : List Marking) (p k : ℕ) → length (rows_from shown p k) ≡ k * length shown
rows_long shown p zero = sym (zero-mul (length shown))
rows_long shown p (suc k) =
    omega (arith, length-append (row shown p) (rows_from shown (suc p) k), row_long shown p, rows_long shown (suc p) k, suc-mul k (length shown))

pub rows_at : (shown : List Marking) (p k j i : ℕ) → j < k → i < length shown
    → get_or (rows_from shown p k) (j * length shown + i) nan ≡ float (held (get_or shown i []) (p + j))
rows_at shown p zero j i h l = absurd (not-suc-le-zero h)
rows_at shown p (suc k) zero i h l =
    let e : zero * length shown + i ≡ i = omega (arith, zero-mul (length shown)) in
    let z : p ≡ p + zero = omega arith in
    ap (λ (c : ℕ). get_or (row shown p ++ rows_from shown (suc p) k) c nan) e
    ∙ get_or-append (row shown p) (rows_from shown (suc p) k) nan i (omega (arith, row_long shown p))
    ∙ row_at shown p i l ∙ ap (λ (q : ℕ). float (held (get_or shown i []) q)) z
rows_at shown p (suc k) (suc j) i h l =
    let e : suc j * length shown + i ≡ length (row shown p) + (j * length shown + i) = omega (arith, suc-mul j (length shown), row_long shown p) in
    let z : suc p + j ≡ p + suc j = omega arith in
    ap (λ (c : ℕ). get_or (row shown p ++ rows_from shown (suc p) k) c nan) e
    ∙ get_or-append-add (row shown p) (rows_from shown (suc p) k) (j * length shown + i) nan
    ∙ rows_at shown (suc p) k j i (le_of_suc-le-suc h) l ∙ ap (λ (q : ℕ). float (held (get_or shown i []) q)) z

positive : (places n c : ℕ) → c < places * n → 0 < n
positive places zero c h = absurd (omega (arith, mul-zero places))
positive places (suc n) c h = omega arith

module _ (places n : ℕ) (shown : List Marking) (t₀ t : List Float) (count : length shown ≡ n) (long : length t ≡ length t₀)
    (fits : places * n ≤ length t₀) (shows : Shows places n shown t) (stay : Stay places n t₀ t) where
  rows_size : length (rows_from shown 0 places) ≡ places * n
  rows_size = rows_long shown 0 places ∙ ap (λ (k : ℕ). places * k) count

  in_row : (p i : ℕ) → p < places → i < n → get_or (rows_from shown 0 places) (p * n + i) nan ≡ float (held (get_or shown i []) p)
  in_row p i h l =
      let z : 0 + p ≡ p = omega arith in
      ap (λ (k : ℕ). get_or (rows_from shown 0 places) (p * k + i) nan) (sym count)
      ∙ rows_at shown 0 places p i h (omega arith)
      ∙ ap (λ (q : ℕ). float (held (get_or shown i []) q)) z

  at_cell : (c p i : ℕ) → c ≡ p * n + i → i < n → c < places * n → get_or t c nan ≡ get_or (table_of places shown t₀) c nan
  at_cell c p i e l h =
      let k : p < places = lt_of_mul-lt-mul_right n (omega arith) in
      ap (λ (x : ℕ). get_or t x nan) e
      ∙ shows p i k (omega arith)
      ∙ sym (in_row p i k l)
      ∙ sym (ap (λ (x : ℕ). get_or (rows_from shown 0 places) x nan) e)
      ∙ sym (get_or-append (rows_from shown 0 places) (drop (places * length shown) t₀) nan c (omega (arith, rows_size)))

  at_each : (c : ℕ) → Dec (c < places * n) → get_or t c nan ≡ get_or (table_of places shown t₀) c nan
  at_each c (yes h) = at_cell c (c / n) (c % n) (sym (div-add-mod' c n)) (mod-lt c (positive places n c h)) h
  at_each c (no h) =
      let rows = rows_from shown 0 places in
      let rest = drop (places * length shown) t₀ in
      let e : c ≡ length rows + (c - places * n) = omega (arith, rows_size) in
      let g : c ≡ places * length shown + (c - places * n) = omega (arith, ap (λ (k : ℕ). places * k) count) in
      stay c (omega arith)
      ∙ ap (λ (x : ℕ). get_or t₀ x nan) g
      ∙ sym (get_or-drop (places * length shown) t₀ (c - places * n) nan)
      ∙ sym (get_or-append-add rows rest (c - places * n) nan)
      ∙ sym (ap (λ (x : ℕ). get_or (rows ++ rest) x nan) e)

  -- a table whose cells show the list, and whose further cells stay, is the list's table
  pub shown_table : t ≡ table_of places shown t₀
  shown_table =
      ext_get_or nan t (table_of places shown t₀)
      (omega (arith, long, fits, length-append (rows_from shown 0 places) (drop (places * length shown) t₀), rows_size, length-drop (places * length shown) t₀, ap (λ (k : ℕ). places * k) count))
      (λ c h. at_each c (dec_lt c (places * n)))
