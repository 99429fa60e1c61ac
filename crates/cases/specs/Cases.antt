-- The cases of document 01, "Checks at the edges", that are marked P: one table and one theorem, on the definitions alone.
-- Each line has what the definitions give and what document 01 says, as numbers: a float by its bits, a whole number by sign and size, an
-- answer behind 0 if it is a value and behind 1 if it is a refusal's number. Document 01 knows no flag of `combinations`, and it is left out.
use Rattle.std.specs.Prelude.{ℕ, suc, ◌≡◌, refl, Bool, true, false, ◌&&◌, List, [], ◌∷◌, ◌++◌, eqb, ℤ, pos, negsuc, Float}
use Rattle.std.specs.Float.{binary64}
use Rattle.std.specs.Float.Ieee.{to_bits, of_bits, of_int, add, sub, mul, div, lt, eq, ne, is_nan}
use Rattle.rng.specs.State.{State}
use Rattle.rng.specs.Xoshiro.{output, step}
use Rattle.portable_log.specs.declared.Parts.{Parts}
use Rattle.portable_log.specs.Log.{frexp, plog, combine}
use Rattle.combinations.specs.Combinations.{Answer, value, refused, combinations}
use Rattle.combinations.specs.Real as Real
use Rattle.root.specs.Root.{root_of}

-- ---- numbers for values

abbrev bits : Float → List ℕ
bits x = to_bits binary64 x ∷ []

abbrev whole : ℤ → List ℕ
whole (pos n) = 0 ∷ n ∷ []
whole (negsuc n) = 1 ∷ suc n ∷ []

abbrev parts : Parts → List ℕ
parts p = bits p.frac ++ whole p.exp

abbrev answer : Answer → List ℕ
answer (value x e) = 0 ∷ bits x
answer (refused c) = 1 ∷ c ∷ []

abbrev real_answer : Real.Answer → List ℕ
real_answer (Real.value x) = 0 ∷ bits x
real_answer (Real.refused c) = 1 ∷ c ∷ []

-- ---- floats and a state for short

abbrev f64 : ℕ → Float
f64 b = of_bits binary64 b

abbrev start : State
start = record { s0 = 1; s1 = 2; s2 = 3; s3 = 4 }

-- ---- the table

pub record Case : Type 0 where
  pub given : List ℕ
  pub wanted : List ℕ

abbrev case : List ℕ → List ℕ → Case
case g w = record { given = g; wanted = w }

abbrev pub cases : List Case
cases =
    -- state 1,2,3,4 yields 11520, 0, 1509978240
    case (output start ∷ []) (11520 ∷ [])
    ∷ case (output (step start) ∷ []) (0 ∷ [])
    ∷ case (output (step (step start)) ∷ []) (1509978240 ∷ [])
    -- frexp(1) = 0.5, 1
    ∷ case (parts (frexp (f64 0x3FF0_0000_0000_0000))) (0x3FE0_0000_0000_0000 ∷ 0 ∷ 1 ∷ [])
    -- frexp(2^-1074) = 0.5, −1073
    ∷ case (parts (frexp (f64 0x0000_0000_0000_0001))) (0x3FE0_0000_0000_0000 ∷ 1 ∷ 1073 ∷ [])
    -- plog(1) = +0
    ∷ case (bits (plog (f64 0x3FF0_0000_0000_0000))) (0 ∷ [])
    -- combinations (5,2) = 10, (1,2) = 0, (1,−3) = 1
    ∷ case (answer (combinations (pos 5) (pos 2))) (0 ∷ 0x4024_0000_0000_0000 ∷ [])
    ∷ case (answer (combinations (pos 1) (pos 2))) (0 ∷ 0 ∷ [])
    ∷ case (answer (combinations (pos 1) (negsuc 2))) (0 ∷ 0x3FF0_0000_0000_0000 ∷ [])
    -- combinations_real(0.5, 2) = −0.125
    ∷ case (real_answer (Real.combinations_real (f64 0x3FE0_0000_0000_0000) (pos 2))) (0 ∷ 0xBFC0_0000_0000_0000 ∷ [])
    -- the root of 4 is 2, of −0 is −0
    ∷ case (bits (root_of (f64 0x4010_0000_0000_0000))) (0x4000_0000_0000_0000 ∷ [])
    ∷ case (bits (root_of (f64 0x8000_0000_0000_0000))) (0x8000_0000_0000_0000 ∷ [])
    ∷ []

abbrev same : List ℕ → List ℕ → Bool
same [] [] = true
same [] (y ∷ ys) = false
same (x ∷ xs) [] = false
same (x ∷ xs) (y ∷ ys) = eqb x y && same xs ys

abbrev all_hold : List Case → Bool
all_hold [] = true
all_hold (c ∷ cs) = same c.given c.wanted && all_hold cs

-- every line of the table holds
pub cases_hold : all_hold cases ≡ true
unfolding combine root_of to_bits of_bits of_int add sub mul div lt eq ne is_nan
cases_hold = refl
