-- A text cut into lines. Document 01, "Net text (added, house format)": "One form a line, …, newline after each".
use Rattle.std.specs.Prelude.{ℕ, Bool, List, [], ◌∷◌, eqb, ltb, length}
use Rattle.net.specs.Net.{pick}
use Rattle.text.specs.Text.{Bytes, newline}

-- "Over 8,192 bytes"
abbrev pub too_long : Bytes → Bool
too_long t = ltb 8192 (length t)

-- A text cut at its newlines: the lines that a newline ends, each without it, and the bytes after the last newline. "newline after each" means
-- that nothing stands there. A text with no byte has no line.
pub record Lines : Type 0 where
  pub ended : List Bytes
  pub rest : Bytes

-- a newline in front of a text: one more line, and it is empty
abbrev pub empty_line : Lines → Lines
empty_line t = record { ended = [] ∷ t.ended; rest = t.rest }

-- any other byte in front of a text belongs to its first line
abbrev pub longer : ℕ → List Bytes → Bytes → Lines
longer b [] rest = record { ended = []; rest = b ∷ rest }
longer b (l ∷ ls) rest = record { ended = (b ∷ l) ∷ ls; rest = rest }

abbrev pub lines : Bytes → Lines
lines [] = record { ended = []; rest = [] }
lines (b ∷ t) =
    let later = lines t in
    pick (eqb b newline) (empty_line later) (longer b later.ended later.rest)
