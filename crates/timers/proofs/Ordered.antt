-- A list in order: a new timer's place is the same from the front and from the end, and insertion and removal keep the order.
use mathlib.Core.Path.{◌≡◌, refl, sym, ap, ◌∙◌}
use mathlib.Core.Bool.{Bool, true, false, ◌&&◌}
use mathlib.Core.List.{List, [], ◌∷◌}
use lib.Ieee.{Float, nan, inf, fin, lt, le, eq, is_nan}
use Rattle.rules.specs.Timers.{Timer, insert, others}
use Rattle.timers.specs.InOrder.{insert_last, all_later, rises_from, in_order}
use Rattle.rules.proofs.Order.{never, both, lt_le, not_le, lt_le_of, le_nan_r}

and : (a b : Bool) → a ≡ true → b ≡ true → a && b ≡ true
and a b p q = rw (p, q)

-- every number is at least minus infinity
above_all : (x : Float) → is_nan x ≡ false → le (inf true) x ≡ true
unfolding lt le eq is_nan
above_all nan h = never (sym h)
above_all (inf false) h = refl
above_all (inf true) h = refl
above_all (fin s m e) h = refl

pub number : (x y : Float) → le x y ≡ true → le (inf true) y ≡ true
number x y h = above_all y (le_nan_r x y h)

-- of two numbers, where a is not below y, y is at most a
not_below : (b y a : Float) → le b y ≡ true → le b a ≡ true → lt a y ≡ false → le y a ≡ true
not_below b y a hy ha h = go (le y a) refl
  where
    go : (c : Bool) → le y a ≡ c → le y a ≡ true
    go true e = e
    go false e = never (sym h ∙ not_le y a (le_nan_r b y hy) (le_nan_r b a ha) e)

pub rises_later : (t a : Float) (xs : List Timer) → lt t a ≡ true → rises_from a xs ≡ true → all_later t xs ≡ true
rises_later t a [] h r = refl
rises_later t a (x ∷ xs) h r =
    let w = both (le a x.at) (rises_from x.at xs) r in
    let here : lt t x.at ≡ true = lt_le t a x.at h w.0 in
    and (lt t x.at) (all_later t xs) here (rises_later t x.at xs here w.1)

-- the place is the same from the end
pub same_place : (b : Float) (x : Timer) (xs : List Timer) → rises_from b xs ≡ true → insert_last x xs ≡ insert x xs
same_place b x [] r = refl
same_place b x (y ∷ ys) r =
    let w = both (le b y.at) (rises_from y.at ys) r in
    go w.1 (same_place y.at x ys w.1) (lt x.at y.at) refl
  where
    go : rises_from y.at ys ≡ true → insert_last x ys ≡ insert x ys → (c : Bool) → lt x.at y.at ≡ c → insert_last x (y ∷ ys) ≡ insert x (y ∷ ys)
    go w rest true e = rw (e, rises_later x.at y.at ys e w) refl
    go w rest false e = rw e (ap (λ (zs : List Timer). y ∷ zs) rest)

-- an insertion keeps the order
pub insert_rises : (b : Float) (x : Timer) (xs : List Timer) → rises_from b xs ≡ true → le b x.at ≡ true → rises_from b (insert x xs) ≡ true
insert_rises b x [] r h = and (le b x.at) true h refl
insert_rises b x (y ∷ ys) r h =
    let w = both (le b y.at) (rises_from y.at ys) r in
    go w.0 w.1 (insert_rises y.at x ys w.1) (lt x.at y.at) refl
  where
    go : le b y.at ≡ true → rises_from y.at ys ≡ true → (le y.at x.at ≡ true → rises_from y.at (insert x ys) ≡ true)
        → (c : Bool) → lt x.at y.at ≡ c → rises_from b (insert x (y ∷ ys)) ≡ true
    go v w rest true e = rw (e, h, lt_le_of x.at y.at e, w) refl
    go v w rest false e = rw (e, v) (rest (not_below b y.at x.at v h e))

-- and so does a removal
pub others_rise : (xs : List Timer) → in_order xs ≡ true → in_order (others xs) ≡ true
others_rise [] r = refl
others_rise (x ∷ []) r = refl
others_rise (x ∷ (y ∷ ys)) r =
    let w = both (le (inf true) x.at) (le x.at y.at && rises_from y.at ys) r in
    let v = both (le x.at y.at) (rises_from y.at ys) w.1 in
    and (le (inf true) y.at) (rises_from y.at ys) (number x.at y.at v.0) v.1
