-- The labels of places. Document 02, order 1: "Every place line gains a third part, its label: 1 to 16 letters a to z, digits or hyphens".
-- Labels stand beside the net (Net), not in it: no rule of a run sees them.
use Rattle.std.specs.Prelude.{ℕ, ◌*◌, Bool, true, ◌&&◌, ◌||◌, not, List, [], ◌∷◌, eqb, leb, length, get_or, take, drop}
use Rattle.std.proofs.Math.Option.{Option}
use Rattle.refusals.specs as Refusal
use Rattle.text.specs.Text.{Bytes, same}
use Rattle.net.specs.Net.{pick, numbered}
use Rattle.net.specs.Tests.{Test, first_of, any}

-- ---- a label

-- `a` to `z`, `0` to `9`, `-`
abbrev pub label_byte : ℕ → Bool
label_byte b = (leb 97 b && leb b 122) || (leb 48 b && leb b 57) || eqb b 45

abbrev pub every : {A : Type 0} → (A → Bool) → List A → Bool
every f [] = true
every f (a ∷ rest) = f a && every f rest

-- "1 to 16 letters a to z, digits or hyphens"
abbrev pub label_fits : Bytes → Bool
label_fits l = leb 1 (length l) && leb (length l) 16 && every label_byte l

-- "17 label absent or malformed …, 18 label already used": a label behind those of the places before it
abbrev pub label_tests : List Bytes → Bytes → List Test
label_tests earlier l = (Refusal.bad_label, not (label_fits l)) ∷ (Refusal.used_label, any (same l) earlier) ∷ []

-- ---- labels as data

-- The label of place p: as many bytes as its length says, from byte 16 × p on; further bytes do not matter. A length above 16 is that of no
-- label, and reads as no byte at all.
abbrev pub label_at : List ℕ → List ℕ → ℕ → Bytes
label_at label lengths p = pick (leb (get_or lengths p 0) 16) (take (get_or lengths p 0) (drop (16 * p) label)) []

-- k labels from place p on
abbrev pub labels_from : List ℕ → List ℕ → ℕ → ℕ → List Bytes
labels_from label lengths p k = numbered (label_at label lengths) p k

-- the first of 17 and 18 that applies to the label of place p, behind those of the places before it
abbrev pub label_fault : List ℕ → List ℕ → ℕ → Option ℕ
label_fault label lengths p = first_of (label_tests (labels_from label lengths 0 p) (label_at label lengths p))
