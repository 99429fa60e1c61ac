-- The exact bytes that `pathrun` prints. Document 01, "Net text (added, house format)": "One form a line, single spaces, newline after each".
use Rattle.std.specs.Prelude.{ℕ, cond, List, [], ◌∷◌, ◌++◌, ltb, Float}
use Rattle.text.specs.Text.{Bytes, bytes}
use Rattle.text.specs.Numbers.{decimal_text, float_text}

-- "prints places, samples, realizations"
abbrev pub result_line : ℕ → ℕ → ℕ → Bytes
result_line places samples realizations =
    bytes "(result " ++ decimal_text places ++ bytes " " ++ decimal_text samples ++ bytes " " ++ decimal_text realizations ++ bytes ")\n"

-- "A refusal prints `(refused NUMBER LINE)`, line 0 for run refusals"
abbrev pub refused_line : ℕ → ℕ → Bytes
refused_line number line = bytes "(refused " ++ decimal_text number ++ bytes " " ++ decimal_text line ++ bytes ")\n"

-- each float behind a space
abbrev pub cells : List Float → Bytes
cells [] = []
cells (x ∷ row) = bytes " " ++ float_text x ++ cells row

-- word, label and row: mean and dev lines differ in the word alone. Document 02, order 1: "Mean and dev lines print the label where they
-- printed the number".
abbrev pub row_line : Bytes → Bytes → List Float → Bytes
row_line word label row = word ++ label ++ cells row ++ bytes ")\n"

-- "then place and means"
abbrev pub mean_line : Bytes → List Float → Bytes
mean_line = row_line (bytes "(mean ")

abbrev pub dev_line : Bytes → List Float → Bytes
dev_line = row_line (bytes "(dev ")

-- the lines of a table's rows, each behind its place's label
abbrev pub lines_from : (Bytes → List Float → Bytes) → List Bytes → List (List Float) → Bytes
lines_from line [] rows = []
lines_from line (label ∷ labels) [] = []
lines_from line (label ∷ labels) (row ∷ rows) = line label row ++ lines_from line labels rows

-- all that an accepted run prints: "with `dev` lines after all `mean` lines if realizations > 1"
abbrev pub printed : ℕ → ℕ → ℕ → List Bytes → List (List Float) → List (List Float) → Bytes
printed places samples realizations labels means devs =
    result_line places samples realizations ++ lines_from mean_line labels means ++ cond (ltb 1 realizations) (lines_from dev_line labels devs) []
