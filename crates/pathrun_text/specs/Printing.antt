-- What the private functions leave in the buffer. The rules are in Pathrun; nothing here adds to them.
use Rattle.std.specs.Prelude.{ℕ, Bool, true, false, List, [], ◌∷◌, length, Float, Option}
use Rattle.text.specs.Text.{Bytes}
use Rattle.text.specs.Buffer.{placed, and_then}
use Rattle.result_text.specs.Lines.{mean_line, dev_line}

-- a buffer with w in front, and the length of w
abbrev pub in_front : Bytes → Bytes → Bytes × ℕ
in_front out w = (placed out 0 w, length w)

-- the line of a row of means, or of deviations
abbrev pub line_of : Bool → Bytes → List Float → Bytes
line_of false = mean_line
line_of true = dev_line

-- the lines of rows behind their labels, one behind the other
abbrev pub then_lines : Bool → Bytes × Option ℕ → List Bytes → List (List Float) → Bytes × Option ℕ
then_lines deviates s [] rows = s
then_lines deviates s (label ∷ labels) [] = s
then_lines deviates s (label ∷ labels) (row ∷ rows) = then_lines deviates (and_then s (line_of deviates label row)) labels rows
