-- How long the lines are, from the lengths of their parts.
use Prim.Native.Nat.{ℕ, ◌+◌, ◌*◌}
use native.Mathlib.Omega.{arith}
use mathlib.Core.Path.{◌≡◌, refl, sym}
use mathlib.Core.List.{List, [], ◌∷◌, ◌++◌}
use lib.ListN.{length, length-append}
use lib.Ieee.{Float}
use Rattle.text.specs.Text.{Bytes, bytes}
use Rattle.text.specs.Numbers.{decimal_text, float_text}
use Rattle.text.proofs.Digits.{float_length}
use Rattle.result_text.specs.Lines.{result_line, refused_line, cells, row_line}

-- `(result `, two spaces and the end are 12 bytes
result_sum : (p s r : Bytes) → length (bytes "(result " ++ p ++ bytes " " ++ s ++ bytes " " ++ r ++ bytes ")\n") ≡ length p + length s + length r + 12
result_sum p s r = simp (length-append) (omega arith)

pub result_length : (p s r : ℕ) {a b c : ℕ} → a ≡ length (decimal_text p) → b ≡ length (decimal_text s) → c ≡ length (decimal_text r)
    → a + b + c + 12 ≡ length (result_line p s r)
result_length p s r ea eb ec = rw (ea, eb, ec) (sym (result_sum (decimal_text p) (decimal_text s) (decimal_text r)))

-- `(refused `, a space and the end are 12 bytes
refused_sum : (n l : Bytes) → length (bytes "(refused " ++ n ++ bytes " " ++ l ++ bytes ")\n") ≡ length n + length l + 12
refused_sum n l = simp (length-append) (omega arith)

pub refused_length : (number line : ℕ) {a b : ℕ} → a ≡ length (decimal_text number) → b ≡ length (decimal_text line)
    → a + b + 12 ≡ length (refused_line number line)
refused_length number line ea eb = rw (ea, eb) (sym (refused_sum (decimal_text number) (decimal_text line)))

-- a cell is 17 bytes
cell_more : (w rest : Bytes) (n : ℕ) → length w ≡ 16 → length rest ≡ 17 * n → length (bytes " " ++ w ++ rest) ≡ 17 * (n + 1)
cell_more w rest n hw hr = simp (length-append) (omega arith)

pub cells_length : (row : List Float) → length (cells row) ≡ 17 * length row
cells_length [] = refl
cells_length (x ∷ row) =
    let e : length (cells (x ∷ row)) ≡ 17 * (length row + 1) = cell_more (float_text x) (cells row) (length row) (float_length x) (cells_length row) in
    omega arith

row_sum : (word label cs : Bytes) → length (word ++ label ++ cs ++ bytes ")\n") ≡ length word + length label + length cs + 2
row_sum word label cs = simp (length-append) (omega arith)

pub row_length : (word label : Bytes) (row : List Float) → length word + length label + 2 + 17 * length row ≡ length (row_line word label row)
row_length word label row = omega (arith, row_sum word label (cells row), cells_length row)
