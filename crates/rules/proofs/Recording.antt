-- Instants and the entries that reach them, in two parts: those that the first part reaches, from the first on, and those that are left to the
-- second. A list of instants rises, so that after one that is not reached none is.
use Prim.Native.Nat.{ℕ, zero, suc, ◌+◌}
use mathlib.Core.Path.{◌≡◌, refl, sym, ap, ap₂, ◌∙◌}
use mathlib.Core.Bool.{Bool, true, false, ◌||◌}
use mathlib.Core.List.{List, [], ◌∷◌, ◌++◌, map, map-append, append-nil}
use native.Mathlib.Omega.{arith}
use lib.ListN.{length, take, drop, take-append-drop}
use lib.Seq.{length-take-le}
use lib.Ieee.{Float, le}
use Rattle.net.specs.Net.{Net, Marking, pick}
use Rattle.rules.specs.Moves.{Entry, reading, started, completed, fired, after}
use Rattle.rules.specs.Shown.{before, reaches, shown_from, reached_from, rising}
use Rattle.rules.specs.Carried.{met_by}
use Rattle.rules.proofs.Order.{never}
use Rattle.rules.proofs.Allowing.{after_append}
use Rattle.rules.proofs.Agree.{before_reached, before_unreached, reaches_append}
use Rattle.rules.proofs.Demand3Held.{rising_first, reached_few}
use Rattle.rules.proofs.Play.{Rises, rises, later_too}

-- ---- later instants

later_unreached : (x y : Float) → le x y ≡ true → (es : List Entry) → reaches x es ≡ false → reaches y es ≡ false
later_unreached x y h [] p = refl
later_unreached x y h (reading t ∷ es) p = go (le x t) refl p (later_unreached x y h es)
  where
    go : (c : Bool) → le x t ≡ c → c || reaches x es ≡ false → (reaches x es ≡ false → reaches y es ≡ false) → le y t || reaches y es ≡ false
    go true q p ih = never (sym p)
    go false q p ih = rw (later_too t x y h q) (ih p)
later_unreached x y h (started j ∷ es) p = later_unreached x y h es p
later_unreached x y h (completed j ∷ es) p = later_unreached x y h es p
later_unreached x y h (fired j ∷ es) p = later_unreached x y h es p

-- none of these is reached
abbrev pub NoneReached : List Entry → List Float → Type 0
NoneReached es [] = Unit
NoneReached es (x ∷ xs) = (reaches x es ≡ false) × NoneReached es xs

none_later : (es : List Entry) (x : Float) (xs : List Float) → rising x xs ≡ true → reaches x es ≡ false → NoneReached es xs
none_later es x [] h p = tt
none_later es x (y ∷ ys) h p =
    let w : (le x y ≡ true) × (rising y ys ≡ true) = rising_first x y ys h in
    let q : reaches y es ≡ false = later_unreached x y w.0 es p in
    (q, none_later es y ys w.1 q)

pub none_left : (es : List Entry) (xs : List Float) → Rises xs → NoneReached es (drop (reached_from es xs) xs)
none_left es [] h = tt
none_left es (x ∷ xs) h = go (reaches x es) refl (none_left es xs (rises x xs h))
  where
    go : (c : Bool) → reaches x es ≡ c → NoneReached es (drop (reached_from es xs) xs) → NoneReached es (drop (pick c (suc (reached_from es xs)) 0) (x ∷ xs))
    go true q ih = ih
    go false q ih = (q, none_later es x xs h q)

-- ---- two parts

module _ (n : Net) (m m' : Marking) (es fs : List Entry) (to : after n m es ≡ m') where
  reached_first : (x : Float) → reaches x es ≡ true → shown_from n m (es ++ fs) x ≡ shown_from n m es x
  reached_first x p = ap (after n m) (before_reached x es fs p)

  reached_later : (x : Float) → reaches x es ≡ false → shown_from n m (es ++ fs) x ≡ shown_from n m' fs x
  reached_later x p = ap (after n m) (before_unreached x es fs p) ∙ after_append n m es (before x fs) ∙ ap (λ (k : Marking). after n k (before x fs)) to

  all_later_lem : (xs : List Float) → NoneReached es xs → (reached_from (es ++ fs) xs ≡ reached_from fs xs)
      × (map (shown_from n m (es ++ fs)) (met_by (es ++ fs) xs) ≡ map (shown_from n m' fs) (met_by fs xs))
  all_later_lem [] h = (refl, refl)
  all_later_lem (x ∷ xs) h = rw (reaches_append x es fs, h.0) (go (reaches x fs) (all_later_lem xs h.1))
    where
      go : (c : Bool) → (reached_from (es ++ fs) xs ≡ reached_from fs xs)
          × (map (shown_from n m (es ++ fs)) (met_by (es ++ fs) xs) ≡ map (shown_from n m' fs) (met_by fs xs))
          → (pick c (suc (reached_from (es ++ fs) xs)) 0 ≡ pick c (suc (reached_from fs xs)) 0)
          × (map (shown_from n m (es ++ fs)) (take (pick c (suc (reached_from (es ++ fs) xs)) 0) (x ∷ xs)) ≡ map (shown_from n m' fs) (take (pick c (suc (reached_from fs xs)) 0) (x ∷ xs)))
      go true ih = (ap suc ih.0, ap₂ (λ (a : Marking) (l : List Marking). a ∷ l) (reached_later x h.0) ih.1)
      go false ih = (refl, refl)

  -- what the whole reaches, and with which counts
  pub in_parts : (xs : List Float) → Rises xs
      → (reached_from (es ++ fs) xs ≡ reached_from es xs + reached_from fs (drop (reached_from es xs) xs))
      × (map (shown_from n m (es ++ fs)) (met_by (es ++ fs) xs)
      ≡ map (shown_from n m es) (met_by es xs) ++ map (shown_from n m' fs) (met_by fs (drop (reached_from es xs) xs)))
  in_parts [] h = (omega arith, refl)
  in_parts (x ∷ xs) h = rw (reaches_append x es fs) (go (reaches x es) refl (in_parts xs (rises x xs h)))
    where
      go : (c : Bool) → reaches x es ≡ c
          → (reached_from (es ++ fs) xs ≡ reached_from es xs + reached_from fs (drop (reached_from es xs) xs))
          × (map (shown_from n m (es ++ fs)) (met_by (es ++ fs) xs)
          ≡ map (shown_from n m es) (met_by es xs) ++ map (shown_from n m' fs) (met_by fs (drop (reached_from es xs) xs)))
          → (pick (c || reaches x fs) (suc (reached_from (es ++ fs) xs)) 0
          ≡ pick c (suc (reached_from es xs)) 0 + reached_from fs (drop (pick c (suc (reached_from es xs)) 0) (x ∷ xs)))
          × (map (shown_from n m (es ++ fs)) (take (pick (c || reaches x fs) (suc (reached_from (es ++ fs) xs)) 0) (x ∷ xs))
          ≡ map (shown_from n m es) (take (pick c (suc (reached_from es xs)) 0) (x ∷ xs))
          ++ map (shown_from n m' fs) (met_by fs (drop (pick c (suc (reached_from es xs)) 0) (x ∷ xs))))
      go true q ih = (omega (arith, ih.0), ap₂ (λ (a : Marking) (l : List Marking). a ∷ l) (reached_first x q) ih.1)
      go false q ih =
          let w : (pick (reaches x fs) (suc (reached_from (es ++ fs) xs)) 0 ≡ pick (reaches x fs) (suc (reached_from fs xs)) 0)
          × (map (shown_from n m (es ++ fs)) (take (pick (reaches x fs) (suc (reached_from (es ++ fs) xs)) 0) (x ∷ xs)) ≡ map (shown_from n m' fs) (met_by fs (x ∷ xs))) =
          rw (reaches_append x es fs, q) at (all_later_lem (x ∷ xs) (q, none_later es x xs h q)) in
          (omega (arith, w.0), w.1)

  shown_later : (xs : List Float) → NoneReached es xs → map (shown_from n m (es ++ fs)) xs ≡ map (shown_from n m' fs) xs
  shown_later [] h = refl
  shown_later (x ∷ xs) h = ap₂ (λ (a : Marking) (l : List Marking). a ∷ l) (reached_later x h.0) (shown_later xs h.1)

  -- what the whole shows
  pub shown_in_parts : (xs : List Float) → Rises xs
      → map (shown_from n m (es ++ fs)) xs ≡ map (shown_from n m es) (met_by es xs) ++ map (shown_from n m' fs) (drop (reached_from es xs) xs)
  shown_in_parts [] h = refl
  shown_in_parts (x ∷ xs) h = go (reaches x es) refl (shown_in_parts xs (rises x xs h))
    where
      go : (c : Bool) → reaches x es ≡ c
          → map (shown_from n m (es ++ fs)) xs ≡ map (shown_from n m es) (met_by es xs) ++ map (shown_from n m' fs) (drop (reached_from es xs) xs)
          → map (shown_from n m (es ++ fs)) (x ∷ xs)
          ≡ map (shown_from n m es) (take (pick c (suc (reached_from es xs)) 0) (x ∷ xs)) ++ map (shown_from n m' fs) (drop (pick c (suc (reached_from es xs)) 0) (x ∷ xs))
      go true q ih = ap₂ (λ (a : Marking) (l : List Marking). a ∷ l) (reached_first x q) ih
      go false q ih = shown_later (x ∷ xs) (q, none_later es x xs h q)

-- ---- a whole run

-- where nothing is reached, the last counts are shown
last_shown_lem : (n : Net) (m m' : Marking) (es : List Entry) → after n m es ≡ m' → (xs : List Float) → NoneReached es xs
    → map (shown_from n m es) xs ≡ map (λ (x : Float). m') xs
last_shown_lem n m m' es to [] h = refl
last_shown_lem n m m' es to (x ∷ xs) h =
    ap₂ (λ (a : Marking) (l : List Marking). a ∷ l) (ap (after n m) (all_before x es h.0) ∙ to) (last_shown_lem n m m' es to xs h.1)
  where
    all_before : (x : Float) (es : List Entry) → reaches x es ≡ false → before x es ≡ es
    all_before x es p = ap (before x) (sym (append-nil es)) ∙ before_unreached x es [] p ∙ append-nil es

-- the instants that are reached show the counts then, the others the last counts
pub shown_whole : (n : Net) (m m' : Marking) (es : List Entry) → after n m es ≡ m' → (xs : List Float) → Rises xs
    → map (shown_from n m es) xs ≡ map (shown_from n m es) (met_by es xs) ++ map (λ (x : Float). m') (drop (reached_from es xs) xs)
shown_whole n m m' es to xs h =
    ap (map (shown_from n m es)) (sym (take-append-drop (reached_from es xs) xs))
    ∙ map-append (shown_from n m es) (met_by es xs) (drop (reached_from es xs) xs)
    ∙ ap (λ (l : List Marking). map (shown_from n m es) (met_by es xs) ++ l) (last_shown_lem n m m' es to (drop (reached_from es xs) xs) (none_left es xs h))

-- ---- how many

pub met_length : (es : List Entry) (xs : List Float) → length (met_by es xs) ≡ reached_from es xs
met_length es xs = length-take-le (reached_from es xs) xs (reached_few es xs)

pub rises_drop : (k : ℕ) (xs : List Float) → Rises xs → Rises (drop k xs)
rises_drop zero xs h = h
rises_drop (suc k) [] h = tt
rises_drop (suc k) (x ∷ xs) h = rises_drop k xs (rises x xs h)
