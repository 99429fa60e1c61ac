-- The table with counts written from an instant on (`table_with`). Row by row it shows them and leaves the other cells as they were: it is `Listed`.
-- Two tables with the same cells are the same, so each table that is `Listed` is this one, and the laws of `Listed` give those of `table_with`.
use Prim.Native.Nat.{ℕ, zero, suc, ◌+◌, ◌-◌, ◌*◌, ◌≤◌, ◌<◌}
use mathlib.Core.Path.{◌≡◌, refl, sym, ap, ◌∙◌}
use mathlib.Core.Logic.{inl, inr}
use mathlib.Core.List.{List, [], ◌∷◌, ◌++◌, append-nil, append_assoc}
use native.Mathlib.Omega.{arith}
use native.Mathlib.Decide.{dec_lt}
use native.Mathlib.Nat.{suc-mul, mul-le-mul_right, zero-mul, zero-add, add-zero, not-suc-le-zero, le_of_suc-le-suc}
use lib.ListN.{length, get_or, take, drop, length-append, length-drop, get_or-append}
use lib.Seq.{length-take-le, get_or-append-add, get_or-drop, get_or-take, drop-drop, ext_get_or, slice_empty}
use lib.Ieee.{Float, nan}
use Rattle.net.specs.Net.{Marking, held}
use Rattle.rules.specs.Propensity.{float}
use Rattle.rules.proofs.Play.{alike}
use Rattle.rules.proofs.PlayLaws.{alike_length}
use Rattle.playing.specs.Cells.{row, row_with, rows_with, rows_from, table_with, table_of, cleared, Stay, Filled}
use Rattle.playing.specs.Playing.{Listed}
use Rattle.playing.proofs.Cells.{row_long, row_at, cleared_stay}

-- ---- m cells of a list from i on, written anew

module _ {A : Type 0} (d : A) (i m : ℕ) (vs l : List A) (e : length vs ≡ m) (h : i + m ≤ length l) where
  front_long : length (take i l) ≡ i
  front_long = length-take-le i l (omega arith)

  anew_end : length (take i l ++ vs) ≡ i + m
  anew_end = omega (arith, length-append (take i l) vs, front_long)

  anew_long : length (take i l ++ vs ++ drop (i + m) l) ≡ length l
  anew_long = omega (arith, length-append (take i l ++ vs) (drop (i + m) l), anew_end, length-drop (i + m) l)

  anew_before : (j : ℕ) → j < i → get_or (take i l ++ vs ++ drop (i + m) l) j d ≡ get_or l j d
  anew_before j k =
      get_or-append (take i l ++ vs) (drop (i + m) l) d j (omega (arith, anew_end))
      ∙ get_or-append (take i l) vs d j (omega (arith, front_long))
      ∙ get_or-take i l j d k

  anew_in : (j : ℕ) → j < m → get_or (take i l ++ vs ++ drop (i + m) l) (i + j) d ≡ get_or vs j d
  anew_in j k =
      get_or-append (take i l ++ vs) (drop (i + m) l) d (i + j) (omega (arith, anew_end))
      ∙ ap (λ (c : ℕ). get_or (take i l ++ vs) (c + j) d) (sym front_long)
      ∙ get_or-append-add (take i l) vs j d

  anew_behind : (j : ℕ) → i + m ≤ j → get_or (take i l ++ vs ++ drop (i + m) l) j d ≡ get_or l j d
  anew_behind j k =
      let u : j ≡ length (take i l ++ vs) + (j - (i + m)) = omega (arith, anew_end) in
      let v : i + m + (j - (i + m)) ≡ j = omega arith in
      ap (λ (c : ℕ). get_or (take i l ++ vs ++ drop (i + m) l) c d) u
      ∙ get_or-append-add (take i l ++ vs) (drop (i + m) l) (j - (i + m)) d
      ∙ get_or-drop (i + m) l (j - (i + m)) d
      ∙ ap (λ (c : ℕ). get_or l c d) v

-- ---- the rows of a table

module _ (n from : ℕ) (sh : List Marking) (fits : from + length sh ≤ n) where
  module _ (p k : ℕ) (t : List Float) (h : suc k * n ≤ length t) where
    rest_fits : k * n ≤ length (drop n t)
    rest_fits = omega (arith, suc-mul k n, length-drop n t)

    first_long : length (row_with from sh p (take n t)) ≡ n
    first_long =
        let e : length (take n t) ≡ n = length-take-le n t (omega (arith, suc-mul k n)) in
        anew_long nan from (length sh) (row sh p) (take n t) (row_long sh p) (omega arith) ∙ e

  rows_with_long : (p k : ℕ) (t : List Float) → k * n ≤ length t → length (rows_with n from sh p k t) ≡ length t
  rows_with_long p zero t h = refl
  rows_with_long p (suc k) t h =
      omega (
        arith,
        length-append (row_with from sh p (take n t)) (rows_with n from sh (suc p) k (drop n t)),
        first_long p k t h,
        rows_with_long (suc p) k (drop n t) (rest_fits p k t h),
        suc-mul k n,
        length-drop n t,
      )

  -- each row is the row written anew
  rows_with_at : (p k : ℕ) (t : List Float) → k * n ≤ length t → (q i : ℕ) → q < k → i < n
      → get_or (rows_with n from sh p k t) (q * n + i) nan ≡ get_or (row_with from sh (p + q) (take n (drop (q * n) t))) i nan
  rows_with_at p zero t h q i a l = absurd (not-suc-le-zero a)
  rows_with_at p (suc k) t h zero i a l =
      rw (zero-mul, zero-add, add-zero)
      (get_or-append (row_with from sh p (take n t)) (rows_with n from sh (suc p) k (drop n t)) nan i (omega (arith, first_long p k t h)))
  rows_with_at p (suc k) t h (suc q) i a l =
      let first = row_with from sh p (take n t) in
      let rest = rows_with n from sh (suc p) k (drop n t) in
      let e : suc q * n + i ≡ length first + (q * n + i) = omega (arith, suc-mul q n, first_long p k t h) in
      let z : suc p + q ≡ p + suc q = omega arith in
      let y : n + q * n ≡ suc q * n = omega (arith, suc-mul q n) in
      ap (λ (c : ℕ). get_or (first ++ rest) c nan) e
      ∙ get_or-append-add first rest (q * n + i) nan
      ∙ rows_with_at (suc p) k (drop n t) (rest_fits p k t h) q i (le_of_suc-le-suc a) l
      ∙ rw (drop-drop, z, y)

  rows_with_further : (p k : ℕ) (t : List Float) → k * n ≤ length t → Stay k n t (rows_with n from sh p k t)
  rows_with_further p zero t h c l = refl
  rows_with_further p (suc k) t h c l =
      let first = row_with from sh p (take n t) in
      let rest = rows_with n from sh (suc p) k (drop n t) in
      let e : c ≡ length first + (c - n) = omega (arith, suc-mul k n, first_long p k t h) in
      let y : n + (c - n) ≡ c = omega (arith, suc-mul k n) in
      ap (λ (c : ℕ). get_or (first ++ rest) c nan) e
      ∙ get_or-append-add first rest (c - n) nan
      ∙ rows_with_further (suc p) k (drop n t) (rest_fits p k t h) (c - n) (omega (arith, suc-mul k n))
      ∙ get_or-drop n t (c - n) nan
      ∙ ap (λ (c : ℕ). get_or t c nan) y

-- ---- the cells of a table written anew

module _ (places n from : ℕ) (sh : List Marking) (t : List Float) (room : places * n ≤ length t) (fits : from + length sh ≤ n) where
  module _ (p : ℕ) (h : p < places) where
    abbrev old : List Float
    old = take n (drop (p * n) t)

    old_fits : from + length sh ≤ length old
    old_fits =
        let end : p * n + n ≤ length t = omega (arith, mul-le-mul_right n h, suc-mul p n) in
        omega (arith, length-take-le n (drop (p * n) t) (omega (arith, length-drop (p * n) t)))

    old_at : (i : ℕ) → i < n → get_or old i nan ≡ get_or t (p * n + i) nan
    old_at i l = get_or-take n (drop (p * n) t) i nan l ∙ get_or-drop (p * n) t i nan

    new_at : (i : ℕ) → i < n → get_or (table_with places n from sh t) (p * n + i) nan ≡ get_or (row_with from sh p old) i nan
    new_at i l = rw zero-add at (rows_with_at n from sh fits 0 places t room p i h l)

  pub with_long : length (table_with places n from sh t) ≡ length t
  with_long = rows_with_long n from sh fits 0 places t room

  pub with_at : (p j : ℕ) → p < places → j < length sh → get_or (table_with places n from sh t) (p * n + (from + j)) nan ≡ float (held (get_or sh j []) p)
  with_at p j h l =
      new_at p h (from + j) (omega arith)
      ∙ anew_in nan from (length sh) (row sh p) (old p h) (row_long sh p) (old_fits p h) j l
      ∙ row_at sh p j l

  pub with_earlier : (p i : ℕ) → p < places → i < from → get_or (table_with places n from sh t) (p * n + i) nan ≡ get_or t (p * n + i) nan
  with_earlier p i h l =
      let k : i < n = omega arith in
      new_at p h i k
      ∙ anew_before nan from (length sh) (row sh p) (old p h) (row_long sh p) (old_fits p h) i l
      ∙ old_at p h i k

  pub with_later : (p i : ℕ) → p < places → from + length sh ≤ i → i < n
      → get_or (table_with places n from sh t) (p * n + i) nan ≡ get_or t (p * n + i) nan
  with_later p i h l k =
      new_at p h i k
      ∙ anew_behind nan from (length sh) (row sh p) (old p h) (row_long sh p) (old_fits p h) i l
      ∙ old_at p h i k

  pub with_further : Stay places n t (table_with places n from sh t)
  with_further = rows_with_further n from sh fits 0 places t room

  pub with_listed : Listed places n from (from + length sh) sh t (table_with places n from sh t)
  with_listed = record { count = refl; long = with_long; cells = with_at; earlier = with_earlier; later = with_later; further = with_further }

  pub with_cleared : cleared (places * n) (table_with places n from sh t) ≡ cleared (places * n) t
  with_cleared = cleared_stay (places * n) t (table_with places n from sh t) with_long with_further

-- ---- lists shown one after the other

pub listed_none : (places n from : ℕ) (t : List Float) → Listed places n from from [] t t
listed_none places n from t =
    record {
      count = omega arith;
      long = refl;
      cells = λ p j h l. absurd (not-suc-le-zero l);
      earlier = λ p i h l. refl;
      later = λ p i h l k. refl;
      further = λ c h. refl;
    }

pub listed_join : (places n from mid to : ℕ) (a b : List Marking) (t₀ t₁ t₂ : List Float)
    → Listed places n from mid a t₀ t₁ → Listed places n mid to b t₁ t₂ → Listed places n from to (a ++ b) t₀ t₂
listed_join places n from mid to a b t₀ t₁ t₂ f g =
    record {
      count = omega (arith, f.count, g.count, length-append a b);
      long = g.long ∙ f.long;
      cells = λ p j h l. shown p j h l (dec_lt j (length a));
      earlier = λ p i h l. g.earlier p i h (omega (arith, f.count)) ∙ f.earlier p i h l;
      later = λ p i h l k. g.later p i h l k ∙ f.later p i h (omega (arith, g.count)) k;
      further = λ c h. g.further c h ∙ f.further c h;
    }
  where
    shown : (p j : ℕ) → p < places → j < length (a ++ b) → Dec (j < length a)
        → get_or t₂ (p * n + (from + j)) nan ≡ float (held (get_or (a ++ b) j []) p)
    shown p j h l (yes k) =
        g.earlier p (from + j) h (omega (arith, f.count)) ∙ f.cells p j h k
        ∙ sym (ap (λ (x : Marking). float (held x p)) (get_or-append a b [] j k))
    shown p j h l (no k) =
        let d : j ≡ length a + (j - length a) = omega arith in
        let e : from + j ≡ mid + (j - length a) = omega (arith, f.count) in
        ap (λ (i : ℕ). get_or t₂ (p * n + i) nan) e
        ∙ g.cells p (j - length a) h (omega (arith, l, length-append a b))
        ∙ sym (ap (λ (x : Marking). float (held x p)) (ap (λ (i : ℕ). get_or (a ++ b) i []) d ∙ get_or-append-add a b (j - length a) []))

-- ---- the same counts at instants in a row

alike_at : (m : Marking) (ys : List Float) (j : ℕ) → j < length (alike m ys) → get_or (alike m ys) j [] ≡ m
alike_at m [] j h = absurd (not-suc-le-zero h)
alike_at m (y ∷ ys) zero h = refl
alike_at m (y ∷ ys) (suc j) h = alike_at m ys j (le_of_suc-le-suc h)

pub listed_alike : (places n from to : ℕ) (m : Marking) (ys : List Float) (t t' : List Float) → from ≤ n → to ≡ from + length ys
    → Filled places n from to m t t' → Listed places n from to (alike m ys) t t'
listed_alike places n from to m ys t t' w e f =
    record {
      count = omega (arith, alike_length m ys);
      long = f.long;
      cells = λ p j h l. f.shows p (from + j) h (omega arith) (omega (arith, l, alike_length m ys))
          ∙ sym (ap (λ (x : Marking). float (held x p)) (alike_at m ys j l));
      earlier = λ p i h l. f.others p i h (omega arith) (inl l);
      later = λ p i h l k. f.others p i h k (inr l);
      further = f.further;
    }

-- ---- a table is settled by its cells

cells_same : (places n : ℕ) (t t' : List Float) → length t' ≡ length t
    → ((p i : ℕ) → p < places → i < n → get_or t' (p * n + i) nan ≡ get_or t (p * n + i) nan) → Stay places n t t' → t' ≡ t
cells_same zero n t t' e f s = ext_get_or nan t' t e (λ c h. s c (omega (arith, zero-mul n)))
cells_same (suc k) n t t' e f s = cells_same k n t t' e (λ p i h l. f p i (omega arith) l) (λ c h. go c h (dec_lt (c - k * n) n))
  where
    go : (c : ℕ) → k * n ≤ c → Dec (c - k * n < n) → get_or t' c nan ≡ get_or t c nan
    go c h (yes l) = let e : k * n + (c - k * n) ≡ c = omega arith in rw e at (f k (c - k * n) (omega arith) l)
    go c h (no l) = s c (omega (arith, suc-mul k n))

-- a table that shows the list is the table with it written
pub listed_with : {places n from to : ℕ} {sh : List Marking} {t t' : List Float} → Listed places n from to sh t t' → to ≤ n → places * n ≤ length t
    → t' ≡ table_with places n from sh t
listed_with {places} {n} {from} {to} {sh} {t} {t'} f fits room =
    cells_same places n w t' (f.long ∙ sym g.long)
    (λ p i h l. cell p i h l (dec_lt i from) (dec_lt i to))
    (λ c h. f.further c h ∙ sym (g.further c h))
  where
    w : List Float
    w = table_with places n from sh t

    g : Listed places n from (from + length sh) sh t w
    g = with_listed places n from sh t room (omega (arith, f.count))

    cell : (p i : ℕ) → p < places → i < n → Dec (i < from) → Dec (i < to) → get_or t' (p * n + i) nan ≡ get_or w (p * n + i) nan
    cell p i h l (yes a) b = f.earlier p i h a ∙ sym (g.earlier p i h a)
    cell p i h l (no a) (yes b) =
        let e : from + (i - from) ≡ i = omega arith in
        let k : i - from < length sh = omega (arith, f.count) in
        rw e at (f.cells p (i - from) h k ∙ sym (g.cells p (i - from) h k))
    cell p i h l (no a) (no b) = f.later p i h (omega arith) l ∙ sym (g.later p i h (omega (arith, f.count)) l)

pub filled_with : {places n from to : ℕ} {m : Marking} {t t' : List Float} → Filled places n from to m t t' → from ≤ to → to ≤ n
    → places * n ≤ length t → (ys : List Float) → length ys ≡ to - from → t' ≡ table_with places n from (alike m ys) t
filled_with f up fits room ys e = listed_with (listed_alike _ _ _ _ _ ys _ _ (omega arith) (omega arith) f) fits room

-- ---- nothing written, one list after the other, all instants

pub with_none : (places n from : ℕ) (t : List Float) → places * n ≤ length t → from ≤ n → table_with places n from [] t ≡ t
with_none places n from t room fits = sym (listed_with (listed_none places n from t) fits room)

pub with_with : (places n from : ℕ) (a b : List Marking) (t : List Float) → from + length (a ++ b) ≤ n → places * n ≤ length t
    → table_with places n (from + length a) b (table_with places n from a t) ≡ table_with places n from (a ++ b) t
with_with places n from a b t fits room =
    let u = table_with places n from a t in
    let s : from + length (a ++ b) ≡ from + length a + length b = omega (arith, length-append a b) in
    let first = with_listed places n from a t room (omega arith) in
    let second = with_listed places n (from + length a) b u (omega (arith, first.long)) (omega arith) in
    listed_with (listed_join places n _ _ _ a b t u _ first second) (omega arith) room

rows_whole : (sh : List Marking) (p k : ℕ) (t : List Float) → rows_with (length sh) 0 sh p k t ≡ rows_from sh p k ++ drop (k * length sh) t
rows_whole sh p zero t = rw zero-mul
rows_whole sh p (suc k) t =
    let s : length sh + k * length sh ≡ suc k * length sh = omega (arith, suc-mul k (length sh)) in
    rw (zero-add, slice_empty (length sh) t, append-nil, rows_whole sh (suc p) k (drop (length sh) t), drop-drop, s, append_assoc (row sh p))

pub with_whole : (places n : ℕ) (sh : List Marking) (t : List Float) → length sh ≡ n → table_with places n 0 sh t ≡ table_of places sh t
with_whole places n sh t count = rw (← count) (rows_whole sh 0 places t)
