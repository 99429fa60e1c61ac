-- A loop over the first cells of a table, one store a turn: the table after c turns is the work done on its first c cells, and a turn more is one cell
-- more. A loop that ends with the table, or with the other table, has done all that was asked. Assumes nothing.
use Rattle.std.proofs.Common.{◌≡◌, ℕ, zero, suc, ◌+◌, ◌<◌, ◌≤◌, min, List, [], ◌∷◌, ◌++◌, length, get_or, set, replicate, drop, sym, refl, ap, ◌∙◌, le_of_suc-le-suc, not-suc-le-zero, add-one, arith}
use lib.Ieee.{Float, nan}
use Rattle.averages.specs.Front.{on_front, with_front, by_number}

-- ---- by f

pub on_front_length : (f : Float → Float) (k : ℕ) (xs : List Float) → length (on_front f k xs) ≡ length xs
on_front_length f zero xs = refl
on_front_length f (suc k) [] = refl
on_front_length f (suc k) (x ∷ xs) = ap suc (on_front_length f k xs)

on_next : (f : Float → Float) (c : ℕ) (xs : List Float) → c < length xs
    → set (on_front f c xs) c (f (get_or (on_front f c xs) c nan)) ≡ on_front f (suc c) xs
on_next f zero [] h = absurd (not-suc-le-zero h)
on_next f zero (x ∷ xs) h = refl
on_next f (suc c) [] h = absurd (not-suc-le-zero h)
on_next f (suc c) (x ∷ xs) h = ap (λ (l : List Float). f x ∷ l) (on_next f c xs (le_of_suc-le-suc h))

-- a turn more
pub on_more : (f : Float → Float) (c : ℕ) (xs₀ : List Float) {xs : List Float} → xs ≡ on_front f c xs₀ → c < length xs₀
    → set xs c (f (get_or xs c nan)) ≡ on_front f (c + 1) xs₀
on_more f c xs₀ e h =
    ap (λ (l : List Float). set l c (f (get_or l c nan))) e
    ∙ on_next f c xs₀ h
    ∙ sym (ap (λ (k : ℕ). on_front f k xs₀) (add-one c))

-- n cells are all that was asked, or all that there are
pub on_end : (f : Float → Float) (n k : ℕ) (xs : List Float) → n ≤ k → (n < k → length xs ≤ n) → on_front f n xs ≡ on_front f k xs
on_end f zero zero xs h e = refl
on_end f zero (suc k) [] h e = refl
on_end f zero (suc k) (x ∷ xs) h e = absurd (not-suc-le-zero (e (omega arith)))
on_end f (suc n) zero xs h e = absurd (not-suc-le-zero h)
on_end f (suc n) (suc k) [] h e = refl
on_end f (suc n) (suc k) (x ∷ xs) h e =
    ap (λ (l : List Float). f x ∷ l) (on_end f n k xs (le_of_suc-le-suc h) (λ l. le_of_suc-le-suc (e (omega arith))))

-- one value for all, as a fill leaves them
pub on_front_one : (z : Float) (k : ℕ) (xs : List Float) → k ≤ length xs → on_front (λ (x : Float). z) k xs ≡ replicate k z ++ drop k xs
on_front_one z zero xs h = refl
on_front_one z (suc k) [] h = absurd (not-suc-le-zero h)
on_front_one z (suc k) (x ∷ xs) h = ap (λ (l : List Float). z ∷ l) (on_front_one z k xs (le_of_suc-le-suc h))

-- ---- by f and another table

pub with_front_length : (f : Float → Float → Float) (k : ℕ) (vs xs : List Float) → length (with_front f k vs xs) ≡ length xs
with_front_length f zero vs xs = refl
with_front_length f (suc k) [] xs = refl
with_front_length f (suc k) (v ∷ vs) [] = refl
with_front_length f (suc k) (v ∷ vs) (x ∷ xs) = ap suc (with_front_length f k vs xs)

with_next : (f : Float → Float → Float) (c : ℕ) (vs xs : List Float) → c < length vs → c < length xs
    → set (with_front f c vs xs) c (f (get_or (with_front f c vs xs) c nan) (get_or vs c nan)) ≡ with_front f (suc c) vs xs
with_next f c [] xs h l = absurd (not-suc-le-zero h)
with_next f c (v ∷ vs) [] h l = absurd (not-suc-le-zero l)
with_next f zero (v ∷ vs) (x ∷ xs) h l = refl
with_next f (suc c) (v ∷ vs) (x ∷ xs) h l = ap (λ (r : List Float). f x v ∷ r) (with_next f c vs xs (le_of_suc-le-suc h) (le_of_suc-le-suc l))

pub with_more : (f : Float → Float → Float) (c : ℕ) (vs xs₀ : List Float) {xs : List Float} → xs ≡ with_front f c vs xs₀ → c < length vs → c < length xs₀
    → set xs c (f (get_or xs c nan) (get_or vs c nan)) ≡ with_front f (c + 1) vs xs₀
with_more f c vs xs₀ e h l =
    ap (λ (r : List Float). set r c (f (get_or r c nan) (get_or vs c nan))) e
    ∙ with_next f c vs xs₀ h l
    ∙ sym (ap (λ (k : ℕ). with_front f k vs xs₀) (add-one c))

pub with_end : (f : Float → Float → Float) (n k : ℕ) (vs xs : List Float) → n ≤ k → (n < k → min (length vs) (length xs) ≤ n)
    → with_front f n vs xs ≡ with_front f k vs xs
with_end f zero zero vs xs h e = refl
with_end f zero (suc k) [] xs h e = refl
with_end f zero (suc k) (v ∷ vs) [] h e = refl
with_end f zero (suc k) (v ∷ vs) (x ∷ xs) h e =
    let z : min (suc (length vs)) (suc (length xs)) ≤ 0 = e (omega arith) in absurd (omega arith)
with_end f (suc n) zero vs xs h e = absurd (not-suc-le-zero h)
with_end f (suc n) (suc k) [] xs h e = refl
with_end f (suc n) (suc k) (v ∷ vs) [] h e = refl
with_end f (suc n) (suc k) (v ∷ vs) (x ∷ xs) h e =
    ap (λ (l : List Float). f x v ∷ l)
    (with_end f n k vs xs (le_of_suc-le-suc h)
    (λ l. let m : min (suc (length vs)) (suc (length xs)) ≤ suc n = e (omega arith) in omega arith))

-- ---- by number

pub by_number_length : (f : ℕ → Float) (i k : ℕ) (xs : List Float) → length (by_number f i k xs) ≡ length xs
by_number_length f i zero xs = refl
by_number_length f i (suc k) [] = refl
by_number_length f i (suc k) (x ∷ xs) = ap suc (by_number_length f (suc i) k xs)

by_next : (f : ℕ → Float) (i c : ℕ) (xs : List Float) → c < length xs → set (by_number f i c xs) c (f (i + c)) ≡ by_number f i (suc c) xs
by_next f i c [] h = absurd (not-suc-le-zero h)
by_next f i zero (x ∷ xs) h = ap (λ (n : ℕ). f n ∷ xs) (omega arith)
by_next f i (suc c) (x ∷ xs) h =
    let e : i + suc c ≡ suc i + c = omega arith in
    ap (λ (n : ℕ). f i ∷ set (by_number f (suc i) c xs) c (f n)) e
    ∙ ap (λ (l : List Float). f i ∷ l) (by_next f (suc i) c xs (le_of_suc-le-suc h))

pub by_more : (f : ℕ → Float) (c : ℕ) (xs₀ : List Float) {xs : List Float} → xs ≡ by_number f 0 c xs₀ → c < length xs₀
    → set xs c (f c) ≡ by_number f 0 (c + 1) xs₀
by_more f c xs₀ e h =
    let z : c ≡ 0 + c = omega arith in
    ap (λ (l : List Float). set l c (f c)) e
    ∙ ap (λ (n : ℕ). set (by_number f 0 c xs₀) c (f n)) z
    ∙ by_next f 0 c xs₀ h
    ∙ sym (ap (λ (k : ℕ). by_number f 0 k xs₀) (add-one c))

pub by_end : (f : ℕ → Float) (i n k : ℕ) (xs : List Float) → n ≤ k → (n < k → length xs ≤ n) → by_number f i n xs ≡ by_number f i k xs
by_end f i zero zero xs h e = refl
by_end f i zero (suc k) [] h e = refl
by_end f i zero (suc k) (x ∷ xs) h e = absurd (not-suc-le-zero (e (omega arith)))
by_end f i (suc n) zero xs h e = absurd (not-suc-le-zero h)
by_end f i (suc n) (suc k) [] h e = refl
by_end f i (suc n) (suc k) (x ∷ xs) h e =
    ap (λ (l : List Float). f i ∷ l) (by_end f (suc i) n k xs (le_of_suc-le-suc h) (λ l. le_of_suc-le-suc (e (omega arith))))
