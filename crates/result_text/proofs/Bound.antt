-- How long the whole answer of `pathrun` can be: each line is at most 24 bytes beside its cells, and there are at most 2,048 cells in a table.
use Prim.Native.Nat.{ℕ, ◌+◌, ◌*◌, ◌^◌, ◌≤◌, ◌<◌}
use native.Mathlib.Omega.{arith}
use native.Mathlib.Nat.{suc-mul, mul-add, mul_left_comm, mul-le-mul_right}
use mathlib.Core.Path.{◌≡◌, refl}
use mathlib.Core.Bool.{Bool, true, false, cond}
use mathlib.Core.List.{List, [], ◌∷◌, ◌++◌}
use lib.Dec.{ltb}
use lib.ListN.{length, length-append}
use lib.Ieee.{Float}
use Rattle.text.specs.Text.{Bytes, bytes}
use Rattle.text.specs.Numbers.{decimal_text}
use Rattle.text.proofs.Digits.{decimal_short}
use Rattle.result_text.specs.Lines.{result_line, row_line, mean_line, dev_line, lines_from, printed}
use Rattle.result_text.proofs.Lengths.{result_length, row_length}

-- rows of n cells each
abbrev pub Rows : ℕ → List (List Float) → Type 0
Rows n [] = Unit {0}
Rows n (row ∷ rows) = (length row ≡ n) × Rows n rows

-- labels of at most 16 bytes each
abbrev pub Short : List Bytes → Type 0
Short [] = Unit {0}
Short (label ∷ labels) = (length label ≤ 16) × Short labels

line_bound : (word label : Bytes) → length word ≤ 6 → length label ≤ 16 → (n : ℕ) (row : List Float) → length row ≡ n → length (row_line word label row) ≤ 24 + 17 * n
line_bound word label hw hl n row e = omega (arith, row_length word label row)

lines_bound : (word : Bytes) → length word ≤ 6 → (n : ℕ) (labels : List Bytes) (rows : List (List Float)) → Short labels → Rows n rows
    → length (lines_from (row_line word) labels rows) ≤ length rows * (24 + 17 * n)
lines_bound word hw n [] rows hl h = omega arith
lines_bound word hw n (label ∷ labels) [] hl h = omega arith
lines_bound word hw n (label ∷ labels) (row ∷ rows) hl h =
    let first : length (row_line word label row) ≤ 24 + 17 * n = line_bound word label hw hl.0 n row h.0 in
    let later : length (lines_from (row_line word) labels rows) ≤ length rows * (24 + 17 * n) = lines_bound word hw n labels rows hl.1 h.1 in
    rw (length-append (row_line word label row) (lines_from (row_line word) labels rows), suc-mul (length rows) (24 + 17 * n)) (omega arith)

-- a table of at most 32 rows and 2,048 cells
table_bound : (word : Bytes) → length word ≤ 6 → (n : ℕ) (labels : List Bytes) (rows : List (List Float)) → Short labels → Rows n rows → length rows ≤ 32 → length rows * n ≤ 2048
    → length (lines_from (row_line word) labels rows) ≤ 35584
table_bound word hw n labels rows hl h few small =
    let all : length (lines_from (row_line word) labels rows) ≤ length rows * (24 + 17 * n) = lines_bound word hw n labels rows hl h in
    let apart : length rows * (24 + 17 * n) ≡ length rows * 24 + length rows * (17 * n) = mul-add (length rows) 24 (17 * n) in
    let turned : length rows * (17 * n) ≡ 17 * (length rows * n) = mul_left_comm (length rows) 17 n in
    let heads : length rows * 24 ≤ 32 * 24 = mul-le-mul_right 24 few in
    omega arith

chosen : (b : Bool) (w : Bytes) → length (cond b w []) ≤ length w
chosen true w = omega arith
chosen false w = omega arith

-- The answer of a run of at most 32 places with labels, 1,024 samples and 2,048 cells in a table fits 71,240 bytes.
pub printed_bound : (places samples realizations : ℕ) (labels : List Bytes) (means devs : List (List Float)) → places ≤ 32 → samples ≤ 1024 → places * samples ≤ 2048 → realizations < 2 ^ 64
    → Short labels → length means ≡ places → Rows samples means → length devs ≡ places → Rows samples devs
    → length (printed places samples realizations labels means devs) ≤ 71240
printed_bound places samples realizations labels means devs hp hs hc hr hl em rm ed rd =
    let means-short : length (lines_from mean_line labels means) ≤ 35584 = table_bound (bytes "(mean ") (omega arith) samples labels means hl rm (omega arith) (rw em hc) in
    let devs-short : length (lines_from dev_line labels devs) ≤ 35584 = table_bound (bytes "(dev ") (omega arith) samples labels devs hl rd (omega arith) (rw ed hc) in
    let first : length (result_line places samples realizations) ≤ 72 =
    omega (
      arith,
      result_length places samples realizations {a = length (decimal_text places)} {b = length (decimal_text samples)} {c = length (decimal_text realizations)} refl refl refl,
      decimal_short places (omega arith),
      decimal_short samples (omega arith),
      decimal_short realizations hr,
    ) in
    let d : Bytes = cond (ltb 1 realizations) (lines_from dev_line labels devs) [] in
    let d-short : length d ≤ length (lines_from dev_line labels devs) = chosen (ltb 1 realizations) (lines_from dev_line labels devs) in
    omega (arith, length-append (result_line places samples realizations ++ lines_from mean_line labels means) d, length-append (result_line places samples realizations) (lines_from mean_line labels means))
