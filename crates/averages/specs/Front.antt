-- The first cells of a lent table, each worked over; the others stay. A table with fewer cells ends it early.
use Rattle.std.specs.Prelude.{ℕ, zero, suc, List, [], ◌∷◌, Float}

-- the first k cells by f
abbrev pub on_front : (Float → Float) → ℕ → List Float → List Float
on_front f zero xs = xs
on_front f (suc k) [] = []
on_front f (suc k) (x ∷ xs) = f x ∷ on_front f k xs

-- the first k cells by f, each with the value that stands at its place in another table
abbrev pub with_front : (Float → Float → Float) → ℕ → List Float → List Float → List Float
with_front f zero vs xs = xs
with_front f (suc k) [] xs = xs
with_front f (suc k) (v ∷ vs) [] = []
with_front f (suc k) (v ∷ vs) (x ∷ xs) = f x v ∷ with_front f k vs xs

-- the first k cells by their number, counted from i
abbrev pub by_number : (ℕ → Float) → ℕ → ℕ → List Float → List Float
by_number f i zero xs = xs
by_number f i (suc k) [] = []
by_number f i (suc k) (x ∷ xs) = f i ∷ by_number f (suc i) k xs
