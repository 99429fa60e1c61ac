-- A whole number above 0 as an odd number times a power of two, the odd number in two words: what the decision in whole numbers works on. Definitions only.
use Rattle.std.specs.Prelude.{◌≡◌, ◌⊎◌, ℕ, ◌+◌, ◌*◌, ◌%◌, ◌^◌, ◌≤◌}

-- the same number, or both of more than 100 binary digits
abbrev pub Agree : ℕ → ℕ → Type 0
Agree a b = (a ≡ b) ⊎ ((2 ^ 100 ≤ a) × (2 ^ 100 ≤ b))

-- N is an odd number times 2 ^ twos, and the words high and low hold the odd number as long as it is below 2 ^ 100
pub record Holds (N high low twos : ℕ) : Type 0 where
  pub odd : ℕ
  pub is_odd : odd % 2 ≡ 1
  pub product : N ≡ odd * 2 ^ twos
  pub words : Agree (high * 2 ^ 64 + low) odd
