-- The laws of a decimal that is read digit by digit. The invariant of the loop, Reading, says that the digits that are left give the value of
-- them all; with a digit more it holds again, and where no digit stands in front it gives the decimal. Assumes nothing.
use Prim.Native.Nat.{ℕ, ◌+◌, ◌-◌, ◌*◌, ◌^◌, ◌≤◌, ◌<◌}
use mathlib.Core.Path.{◌≡◌, refl, sym, ap, ◌∙◌}
use mathlib.Core.Bool.{Bool, true, false, ◌||◌}
use mathlib.Core.List.{[], ◌∷◌}
use native.Mathlib.Omega.{arith}
use lib.ListN.{length, get_or, take}
use borrow.Author.Tests.{le-leb, lt-leb}
use Rattle.net.specs.Net.{pick}
use Rattle.text.specs.Text.{Bytes}
use Rattle.net_text.specs.Forms.{wrong, met, is_digit_byte, digits, after_digits, value_from, zero_leads, some_digits}
use Rattle.net_text.specs.Scanned.{number, Kept}

kept_none : Kept 0 0 false
kept_none = record { number = omega arith; mark = sym (lt-leb (2 ^ 64) 0 (omega arith)) }

-- ---- the run of digits

is_digit : (b : ℕ) → 48 ≤ b → b ≤ 57 → is_digit_byte b ≡ true
is_digit b low high = rw (le-leb 48 b low, le-leb b 57 high)

front_by : (x : Bool) (b : ℕ) (t : Bytes) → digits t ≡ take (length (digits t)) t
    → pick x (b ∷ digits t) [] ≡ take (length (pick x (b ∷ digits t) [])) (b ∷ t)
front_by true b t h = ap (λ (ds : Bytes). b ∷ ds) h
front_by false b t h = refl

-- they stand in front
digits_front : (t : Bytes) → digits t ≡ take (length (digits t)) t
digits_front [] = refl
digits_front (b ∷ t) = front_by (is_digit_byte b) b t (digits_front t)

-- no digit in front: the run is empty
pub record Stopped (t : Bytes) : Type 0 where
  pub none : digits t ≡ []
  pub rest : after_digits t ≡ t

pub stopped_end : (t : Bytes) → length t < 1 → Stopped t
stopped_end [] h = record { none = refl; rest = refl }
stopped_end (b ∷ t) h = absurd (omega arith)

stopped_by : (t : Bytes) → 1 ≤ length t → is_digit_byte (get_or t 0 0) ≡ false → Stopped t
stopped_by [] h e = absurd (omega arith)
stopped_by (b ∷ t) h e = record { none = rw e; rest = rw e }

pub stopped_below : (t : Bytes) → 1 ≤ length t → get_or t 0 0 < 48 → Stopped t
stopped_below t h e = stopped_by t h (rw (lt-leb 48 (get_or t 0 0) e))

pub stopped_above : (t : Bytes) → 1 ≤ length t → 57 < get_or t 0 0 → Stopped t
stopped_above t h e = stopped_by t h (rw (le-leb 48 (get_or t 0 0) (omega arith), lt-leb (get_or t 0 0) 57 e))

-- ---- the loop

-- the digits in front of what is left are read, and their value v is kept
pub record Reading (line rest : Bytes) (value : ℕ) (over : Bool) : Type 0 where
  pub v : ℕ
  pub kept : Kept v value over
  pub valued : value_from 0 (digits line) ≡ value_from v (digits rest)
  pub after : after_digits line ≡ after_digits rest
  pub count : length line + length (digits rest) ≡ length (digits line) + length rest

pub reading_none : (line : Bytes) → Reading line line 0 false
reading_none line = record { v = 0; kept = kept_none; valued = refl; after = refl; count = omega arith }

module _ (line : Bytes) (b : ℕ) (rest : Bytes) (value : ℕ) (over : Bool) (r : Reading line (b ∷ rest) value over) (low : 48 ≤ b) (high : b ≤ 57) where
  digits_more : digits (b ∷ rest) ≡ b ∷ digits rest
  digits_more = rw (is_digit b low high)

  after_more : after_digits (b ∷ rest) ≡ after_digits rest
  after_more = rw (is_digit b low high)

  pub reading_more : (value' : ℕ) (over' : Bool) → ((v : ℕ) → Kept v value over → Kept (v * 10 + (b - 48)) value' over') → Reading line rest value' over'
  reading_more value' over' k = record {
    v = r.v * 10 + (b - 48);
    kept = k r.v r.kept;
    valued = r.valued ∙ ap (value_from r.v) digits_more;
    after = r.after ∙ after_more;
    count = omega (arith, ap length digits_more, r.count);
  }

-- ---- the decimal

some_is : (ds t : Bytes) → 0 < length ds → some_digits ds t ≡ met (record { value = value_from 0 ds; zero_led = zero_leads ds }) t
some_is [] t h = absurd (omega arith)
some_is (d ∷ ds) t h = refl

none_is : (ds t : Bytes) → length ds ≡ 0 → some_digits ds t ≡ wrong
none_is [] t h = refl
none_is (d ∷ ds) t h = absurd (omega arith)

module _ (line rest : Bytes) (value : ℕ) (over : Bool) (r : Reading line rest value over) (s : Stopped rest) where
  size : length line ≡ length (digits line) + length rest
  size = omega (arith, r.count, ap length s.none)

  pub reads_none : length line - length rest ≡ 0 → number line ≡ wrong
  reads_none e = rw (none_is (digits line) (after_digits line) (omega (arith, size)))

  whole : value_from 0 (digits line) ≡ r.v
  whole = r.valued ∙ ap (value_from r.v) s.none

  behind_it : after_digits line ≡ rest
  behind_it = r.after ∙ s.rest

  led_is : zero_leads (take (length line - length rest) line) ≡ zero_leads (digits line)
  led_is =
      let all : length line - length rest ≡ length (digits line) = omega (arith, size) in
      rw (all, sym (digits_front line))

  pub reads : (length line - length rest ≡ 0 → ⊥) → (z : Bool) → z ≡ zero_leads (take (length line - length rest) line)
      → number line ≡ met (record { value = value; strange = z || over }) rest
  reads some z e =
      let led : zero_leads (digits line) ≡ z = sym led_is ∙ sym e in
      rw (some_is (digits line) (after_digits line) (omega (arith, size)), whole, behind_it, led, r.kept.number, r.kept.mark)
