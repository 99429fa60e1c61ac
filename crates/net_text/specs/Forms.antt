-- The form of a line: what refusal 1, "wrong form", tests. Document 01, "Net text (added, house format)", and document 02, order 1.
-- The forms of the lines stand at the end. Each lists the parts of its line in order: a part in quotes stands there as it is, and
-- `x ← part` gives the name x to what that part says. Nothing else may stand between the parts, so a space is one space.
-- A form says what is written and judges no value: numbers of any size, places that there are not and labels of any bytes have the right form.
use Rattle.std.specs.Prelude.{ℕ, zero, suc, ◌+◌, ◌-◌, ◌*◌, Bool, false, ◌&&◌, List, [], ◌∷◌, eqb, leb, length}
use Prim.Native.String.{String}
use Rattle.std.proofs.Math.Option.{Option, none, some}
use Rattle.net.specs.Net.{pick}
use Rattle.text.specs.Text.{Bytes, bytes}

-- ---- forms in general

-- what a form finds at the front of some bytes: it is not met there, or it says something, and leaves the bytes behind it
pub data Met (A : Type 0) : Type 0 where
  wrong : Met A
  met : A → Bytes → Met A

abbrev pub Form : Type 0 → Type 0
Form A = Bytes → Met A

-- no byte at all: always met, and says a
abbrev pub say : {A : Type 0} → A → Form A
say a t = met a t

-- one form and behind it another, which may use what the first says (`do` is short for these two)
abbrev pub behind : {A B : Type 0} → Met A → (A → Form B) → Met B
behind wrong next = wrong
behind (met a t) next = next a t

abbrev pub ◌>>=◌ : {A B : Type 0} → Form A → (A → Form B) → Form B
◌>>=◌ f next t = behind (f t) next

abbrev pub ◌>>◌ : {A B : Type 0} → Form A → Form B → Form B
◌>>◌ f g t = behind (f t) (λ a. g)

-- the first form, or where it is not met the second
abbrev pub instead : {A : Type 0} → Met A → Form A → Form A
instead wrong g t = g t
instead (met a rest) g t = met a rest

infixr 60 ◌or◌
abbrev pub ◌or◌ : {A : Type 0} → Form A → Form A → Form A
◌or◌ f g t = instead (f t) g t

-- the form as often as it is met, at most k times
abbrev pub up_to : {A : Type 0} → ℕ → Form A → Form (List A)
up_to zero f = say []
up_to (suc k) f = (do
  a ← f
  rest ← up_to k f
  say (a ∷ rest)) or say []

-- the form as often as it is met: each time takes a byte or more, so the number of bytes bounds it
abbrev pub many : {A : Type 0} → Form A → Form (List A)
many f t = up_to (length t) f t

-- the form and nothing behind it: a form met by a whole line
abbrev pub alone : {A : Type 0} → Met A → Option A
alone wrong = none
alone (met a []) = some a
alone (met a (b ∷ rest)) = none

-- ---- the parts of a line

-- these very bytes, which say nothing
abbrev pub exactly : Bytes → Form (Unit {0})
exactly [] t = met tt t
exactly (b ∷ bs) [] = wrong
exactly (b ∷ bs) (c ∷ t) =
    let further = exactly bs t in
    pick (eqb b c) further wrong

abbrev pub quoted : String → Form (Unit {0})
quoted s = exactly (bytes s)

abbrev pub between : ℕ → ℕ → ℕ → Bool
between low high b = leb low b && leb b high

-- `0` to `9`
abbrev pub is_digit_byte : ℕ → Bool
is_digit_byte b = between 48 57 b

-- a run of decimal digits: those in front, up to the first byte that is none, and the bytes from there on
abbrev pub digits : Bytes → Bytes
digits [] = []
digits (b ∷ t) =
    let further = digits t in
    pick (is_digit_byte b) (b ∷ further) []

abbrev pub after_digits : Bytes → Bytes
after_digits [] = []
after_digits (b ∷ t) =
    let further = after_digits t in
    pick (is_digit_byte b) further (b ∷ t)

-- a decimal as it is written: its value, of any size, and whether a zero leads other digits
pub record Decimal : Type 0 where
  pub value : ℕ
  pub zero_led : Bool

-- the value of digits, behind digits whose value is v
abbrev pub value_from : ℕ → Bytes → ℕ
value_from v [] = v
value_from v (b ∷ ds) = value_from (v * 10 + (b - 48)) ds

abbrev pub zero_leads : Bytes → Bool
zero_leads [] = false
zero_leads (b ∷ []) = false
zero_leads (b ∷ c ∷ ds) = eqb b 48

-- one digit at least
abbrev pub some_digits : Bytes → Form Decimal
some_digits [] t = wrong
some_digits (b ∷ ds) t = met (record { value = value_from 0 (b ∷ ds); zero_led = zero_leads (b ∷ ds) }) t

abbrev pub decimal : Form Decimal
decimal t = some_digits (digits t) (after_digits t)

-- a hexadecimal digit, in lower case: `0` to `9` and `a` to `f`
abbrev pub hex_digit : Form ℕ
hex_digit [] = wrong
hex_digit (b ∷ t) = pick (is_digit_byte b) (met (b - 48) t) (pick (between 97 102 b) (met (b - 87) t) wrong)

-- the value of k of them, behind digits whose value is v
abbrev pub hex_from : ℕ → ℕ → Form ℕ
hex_from zero v = say v
hex_from (suc k) v = do
  d ← hex_digit
  hex_from k (v * 16 + d)

-- "floats are 16 lower-case hexadecimal digits of their bits"
abbrev pub hexadecimal : Form ℕ
hexadecimal = hex_from 16 0

-- What stands between here and the `)` that ends the line, brackets and spaces too. Not met where another byte ends the line, or none is left.
abbrev pub up_to_last : Form Bytes
up_to_last [] = wrong
up_to_last (b ∷ []) = pick (eqb b 41) (met [] []) wrong
up_to_last (b ∷ c ∷ t) =
    let further = up_to_last (c ∷ t) in
    behind further (λ l. say (b ∷ l))

-- ---- the lines

-- an arc as it is written: place, weight and, for a take alone, whether it is kinetic
pub data RawArc : Type 0 where
  raw_take : Decimal → Decimal → Decimal → RawArc
  raw_put : Decimal → Decimal → RawArc
  raw_read : Decimal → Decimal → RawArc
  raw_block : Decimal → Decimal → RawArc

abbrev pub take_form : Form RawArc
take_form = do
  quoted "(take "
  p ← decimal
  quoted " "
  w ← decimal
  quoted " "
  k ← decimal
  quoted ")"
  say (raw_take p w k)

-- the other three differ in the word alone
abbrev pub arc_form : String → (Decimal → Decimal → RawArc) → Form RawArc
arc_form word arc = do
  quoted word
  p ← decimal
  quoted " "
  w ← decimal
  quoted ")"
  say (arc p w)

-- an arc, with the space in front of it
abbrev pub next_arc : Form RawArc
next_arc = do
  quoted " "
  take_form or arc_form "(put " raw_put or arc_form "(read " raw_read or arc_form "(block " raw_block

-- a line between `(net` and `)`, as it is written; floats by their bits
pub data RawLine : Type 0 where
  raw_place : Decimal → Decimal → Bytes → RawLine
  raw_move : ℕ → ℕ → List RawArc → RawLine
  raw_run : Decimal → Decimal → Decimal → ℕ → RawLine

-- The label: "it is all between the space after the capacity and the `)` that ends the line". "17 label absent or malformed (no longer 1)": a line
-- that ends behind the capacity has the right form too, and a label of no byte.
abbrev pub written_label : Form Bytes
written_label = do
  quoted " "
  up_to_last

abbrev pub absent_label : Form Bytes
absent_label = do
  quoted ")"
  say []

abbrev pub label_form : Form Bytes
label_form = written_label or absent_label

-- "Place: initial, capacity", and "a third part, its label"
abbrev pub place_form : Form RawLine
place_form = do
  quoted "(place "
  initial ← decimal
  quoted " "
  capacity ← decimal
  label ← label_form
  say (raw_place initial capacity label)

-- "Move: rate, delay, then arcs"
abbrev pub move_form : Form RawLine
move_form = do
  quoted "(move "
  rate ← hexadecimal
  quoted " "
  delay ← hexadecimal
  arcs ← many next_arc
  quoted ")"
  say (raw_move rate delay arcs)

-- "Run: samples, realizations, seed, horizon"
abbrev pub run_form : Form RawLine
run_form = do
  quoted "(run "
  samples ← decimal
  quoted " "
  realizations ← decimal
  quoted " "
  seed ← decimal
  quoted " "
  horizon ← hexadecimal
  quoted ")"
  say (raw_run samples realizations seed horizon)

-- what a line between `(net` and `)` says, if its form is right
abbrev pub line_of : Bytes → Option RawLine
line_of l = alone ((place_form or move_form or run_form) l)
