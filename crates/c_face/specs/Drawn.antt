-- What a generator gives in a row. Definitions only.
use Rattle.std.specs.Prelude.{ℕ, zero, suc, List, [], ◌∷◌}
use Rattle.rng.specs.State.{State}
use Rattle.rng.specs.Xoshiro.{step}

-- what f reads off each of n states in a row, the first one first
abbrev pub drawn : {A : Type 0} → (State → A) → ℕ → State → List A
drawn f zero s = []
drawn f (suc n) s = f s ∷ drawn f n (step s)

-- the state after n steps
abbrev pub after : ℕ → State → State
after zero s = s
after (suc n) s = after n (step s)
