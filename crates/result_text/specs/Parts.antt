-- What the private writers of a line's parts leave in the buffer.
use Rattle.std.specs.Prelude.{ℕ, Option, List, [], ◌∷◌, Float}
use Rattle.text.specs.Text.{Bytes, bytes}
use Rattle.text.specs.Numbers.{float_text}
use Rattle.text.specs.Buffer.{and_then}

-- one float behind a space
abbrev pub then_cell : Bytes × Option ℕ → Float → Bytes × Option ℕ
then_cell s x = and_then (and_then s (bytes " ")) (float_text x)

-- a row, float by float
abbrev pub then_cells : Bytes × Option ℕ → List Float → Bytes × Option ℕ
then_cells s [] = s
then_cells s (x ∷ row) = then_cells (then_cell s x) row
