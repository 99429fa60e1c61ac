-- Lines that hold no newline, each with one behind it, are cut into the same lines again. Assumes nothing.
use Prim.Native.Nat.{ℕ, zero, suc, ◌+◌, ◌/◌, ◌%◌}
use native.Mathlib.Omega.{arith}
use mathlib.Core.Path.{◌≡◌, refl}
use mathlib.Core.Bool.{Bool, true, false, ◌&&◌, not}
use mathlib.Core.List.{List, [], ◌∷◌, ◌++◌}
use lib.Dec.{eqb, ltb}
use borrow.Author.Tests.{ne_eqb}
use Rattle.text.specs.Text.{Bytes, newline}
use Rattle.text.specs.Numbers.{digit, low_digits, leading_digits, decimal_text}
use Rattle.net_text.specs.Lines.{lines}
use Rattle.net_writing.specs.Writing.{ended, together}

-- no byte of them ends a line
abbrev pub OneLine : Bytes → Type 0
OneLine [] = Unit {0}
OneLine (b ∷ t) = (eqb b newline ≡ false) × OneLine t

abbrev pub OneLines : List Bytes → Type 0
OneLines [] = Unit {0}
OneLines (l ∷ ls) = OneLine l × OneLines ls

pub line_more : (s t : Bytes) → OneLine s → OneLine t → OneLine (s ++ t)
line_more [] t h k = k
line_more (b ∷ s) t h k = (h.0, line_more s t h.1 k)

pub line_together : (ws : List Bytes) → OneLines ws → OneLine (together ws)
line_together [] h = tt
line_together (w ∷ ws) h = line_more w (together ws) h.0 (line_together ws h.1)

pub lines_more : (ls ms : List Bytes) → OneLines ls → OneLines ms → OneLines (ls ++ ms)
lines_more [] ms h k = k
lines_more (l ∷ ls) ms h k = (h.0, lines_more ls ms h.1 k)

-- the same as a test, for bytes that are quoted
abbrev pub no_newline : Bytes → Bool
no_newline [] = true
no_newline (b ∷ t) = not (eqb b newline) && no_newline t

unless_newline : (x y : Bool) → not x && y ≡ true → (x ≡ false) × (y ≡ true)
unless_newline true y e = let z : ◌≡◌ {A = ℕ} 0 1 = cc in absurd (omega arith)
unless_newline false y e = (refl, e)

pub quoted_line : (t : Bytes) → no_newline t ≡ true → OneLine t
quoted_line [] e = tt
quoted_line (b ∷ t) e =
    let two = unless_newline (eqb b newline) (no_newline t) e in
    (two.0, quoted_line t two.1)

-- ---- numbers

digit_by : (d : ℕ) (x : Bool) → ltb d 10 ≡ x → eqb (digit d) newline ≡ false
digit_by d true e = rw e (ne_eqb (48 + d) 10 (λ h. omega arith))
digit_by d false e = rw e (ne_eqb (87 + d) 10 (λ h. omega arith))

low_line : (base k n : ℕ) → OneLine (low_digits base k n)
low_line base zero n = tt
low_line base (suc k) n = line_more (low_digits base k (n / base)) (digit (n % base) ∷ []) (low_line base k (n / base)) (digit_by (n % base) (ltb (n % base) 10) refl, tt)

pub hex_line : (n : ℕ) → OneLine (low_digits 16 16 n)
hex_line n = low_line 16 16 n

leading_line : (k n : ℕ) → OneLine (leading_digits k n)
leading_line zero n = tt
leading_line (suc k) zero = tt
leading_line (suc k) (suc n) =
    line_more (leading_digits k (suc n / 10)) (digit (suc n % 10) ∷ []) (leading_line k (suc n / 10)) (digit_by (suc n % 10) (ltb (suc n % 10) 10) refl, tt)

pub decimal_line : (n : ℕ) → OneLine (decimal_text n)
decimal_line n = line_more (leading_digits n (n / 10)) (digit (n % 10) ∷ []) (leading_line n (n / 10)) (digit_by (n % 10) (ltb (n % 10) 10) refl, tt)

-- ---- the cut

-- a line in front of a text
line_first : (l t : Bytes) (ls : List Bytes) (rest : Bytes) → OneLine l → lines t ≡ record { ended = ls; rest = rest }
    → lines (l ++ (newline ∷ t)) ≡ record { ended = l ∷ ls; rest = rest }
line_first [] t ls rest h e = rw e
line_first (b ∷ l) t ls rest h e = rw (h.0, line_first l t ls rest h.1 e)

pub cut : (ls : List Bytes) → OneLines ls → lines (ended ls) ≡ record { ended = ls; rest = [] }
cut [] h = refl
cut (l ∷ ls) h = line_first l (ended ls) ls [] h.0 (cut ls h.1)
