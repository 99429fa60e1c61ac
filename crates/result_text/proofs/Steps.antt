-- A line that fits is written part by part: each part behind the parts before it.
use Prim.Native.Nat.{ℕ, ◌+◌, ◌≤◌, ◌<◌}
use native.Mathlib.Numerals.{add-one}
use lib.Seq.{drop-cons}
use mathlib.Core.Path.{◌≡◌, refl, sym, ap, ◌∙◌}
use mathlib.Core.List.{List, [], ◌∷◌, ◌++◌, append_assoc, append-nil}
use lib.ListN.{length, get_or, drop}
use lib.Ieee.{Float, nan}
use Rattle.text.specs.Text.{Bytes, bytes}
use Rattle.text.specs.Numbers.{float_text}
use Rattle.text.specs.Buffer.{written, and_then}
use Rattle.std.specs.Prelude.{Option, Some, None}
use Rattle.text.proofs.Places.{then_joined, front_fits}
use Rattle.result_text.specs.Lines.{cells}
use Rattle.result_text.specs.Parts.{then_cell, then_cells}

-- one part more
pub part : (out : Bytes) (i : ℕ) (v w : Bytes) {s t : Bytes × Option ℕ} → i + length (v ++ w) ≤ length out
    → s ≡ written out i v → t ≡ and_then s w → t ≡ written out i (v ++ w)
part out i v w h e f = f ∙ ap (λ (s : Bytes × Option ℕ). and_then s w) e ∙ then_joined out i v w h

regroup : (v a b c : Bytes) → v ++ (a ++ b ++ c) ≡ v ++ a ++ b ++ c
regroup v a b c = simp append_assoc

-- a row of cells more
pub row : (out : Bytes) (i : ℕ) (v : Bytes) (xs : List Float) → i + length (v ++ cells xs) ≤ length out
    → then_cells (written out i v) xs ≡ written out i (v ++ cells xs)
row out i v [] h = ap (written out i) (sym (append-nil v))
row out i v (x ∷ xs) h =
    let spaced : Bytes = v ++ bytes " " in
    let celled : Bytes = spaced ++ float_text x in
    let same : v ++ cells (x ∷ xs) ≡ celled ++ cells xs = regroup v (bytes " ") (float_text x) (cells xs) in
    let all : i + length (celled ++ cells xs) ≤ length out = rw same at h in
    let front : i + length celled ≤ length out = front_fits i celled (cells xs) all in
    let one : then_cell (written out i v) x ≡ written out i celled =
    part out i spaced (float_text x) front (part out i v (bytes " ") (front_fits i spaced (float_text x) front) refl refl) refl in
    ap (λ (s : Bytes × Option ℕ). then_cells s xs) one ∙ row out i celled xs all ∙ ap (written out i) (sym same)

pub row_behind : (out : Bytes) (i : ℕ) (v : Bytes) (xs : List Float) {a b : Bytes} {j : ℕ} {r : Option ℕ} → i + length (v ++ cells xs) ≤ length out
    → (a, Some j) ≡ written out i v → (b, r) ≡ then_cells (a, Some j) xs → (b, r) ≡ written out i (v ++ cells xs)
row_behind out i v xs h e f = f ∙ ap (λ (s : Bytes × Option ℕ). then_cells s xs) e ∙ row out i v xs h

-- no cell behind a buffer that was too short
stopped : (out : Bytes) (xs : List Float) → then_cells (out, None) xs ≡ (out, None)
stopped out [] = refl
stopped out (x ∷ xs) = stopped out xs

pub stopped_at : (s : Bytes × Option ℕ) (row : List Float) (i : ℕ) (later : Bytes) → i < length row → (later, None) ≡ then_cell s (get_or row i nan)
    → (later, None) ≡ then_cells s (drop i row)
stopped_at s row i later h e =
    sym (stopped later (drop (i + 1) row)) ∙ ap (λ (t : Bytes × Option ℕ). then_cells t (drop (i + 1) row)) e ∙ sym (rw (drop-cons row i nan h, add-one i))
