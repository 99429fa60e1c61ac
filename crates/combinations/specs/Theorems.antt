-- What holds of the binomial coefficient and of exactness, as statements. proofs/Binomial proves the first two, proofs/Laws the others.
use Rattle.std.specs.Prelude.{◌≡◌, true, false, List, [], ◌∷◌, ℕ, suc, ◌+◌, ◌*◌, ◌^◌, ◌≤◌, pos, get_or, Float}
use Rattle.std.specs.Float.Ieee.Exact.{HasValue}
use Rattle.floats.specs.{float}
use Rattle.combinations.specs.Binomial.{falling, factorial, binomial, exact}
use Rattle.combinations.specs.Combinations.{value, combinations}

-- ---- the binomial coefficient

-- the falling product over the factorial leaves no rest
abbrev pub NoRest : Type 0
NoRest = (m w : ℕ) → binomial m w * factorial w ≡ falling m w

-- Pascal's rule with its edges, which says what the binomial coefficient is
pub record Pascal : Type 0 where
  pub edge : (m : ℕ) → binomial m 0 ≡ 1
  pub top : (w : ℕ) → binomial 0 (suc w) ≡ 0
  pub rule : (m w : ℕ) → binomial (suc m) (suc w) ≡ binomial m w + binomial m (suc w)

-- ---- the flag

-- In the library's terms: x is finite, not negative, and of the size of the binomial coefficient over 1.
pub record FlagSays (x : Float) (m w : ℕ) : Type 0 where
  pub told : exact x m w ≡ true → HasValue x false (binomial m w) 1
  pub held : HasValue x false (binomial m w) 1 → exact x m w ≡ true

-- That is what the flag says wherever a product is worked.
abbrev pub ExactIsValue : Type 0
ExactIsValue = (x : Float) (m w : ℕ) → w ≤ m → FlagSays x m w

-- Of counts every flag is `exact` of its float: where w is 0 the binomial coefficient is the 1 given, and where m < w it is the 0.
pub record Flagged (m w : ℕ) : Type 0 where
  pub x : Float
  pub answer : combinations (pos m) (pos w) ≡ value x (exact x m w)

abbrev pub EveryFlag : Type 0
EveryFlag = (m w : ℕ) → w ≤ 16 → m ≤ 2 ^ 53 → Flagged m w

-- For each w from 0 to 16 the largest m, up to 2 ^ 53, at which no product of a step passes 2 ^ 53.
abbrev pub unrounded : List ℕ
unrounded =
    9007199254740992 ∷ 9007199254740992 ∷ 94906266 ∷ 262145 ∷ 15248 ∷ 2932 ∷ 1015 ∷ 489 ∷ 290 ∷ 196 ∷ 146 ∷ 116 ∷ 97 ∷ 84 ∷ 75 ∷ 69 ∷ 64 ∷ []

-- Up to there no step rounds, and the answer is the binomial coefficient as a float, exact: at w = 2 up to m = 94,906,266, at w = 16 up to 64. Past 16 the table
-- says 0, and of no token there are no ways.
abbrev pub ExactUpTo : Type 0
ExactUpTo = (m w : ℕ) → m ≤ get_or unrounded w 0 → combinations (pos m) (pos w) ≡ value (float (binomial m w)) true

-- At w = 1 that is every m: as many ways as there are tokens.
abbrev pub OneIsExact : Type 0
OneIsExact = (m : ℕ) → m ≤ 2 ^ 53 → combinations (pos m) (pos 1) ≡ value (float m) true
