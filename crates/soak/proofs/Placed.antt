-- The text stands at the front of the room that it is written into, and the call's answer follows from that. Assumes nothing.
use Prim.Native.Nat.{ℕ, ◌+◌, ◌^◌, ◌≤◌, ◌<◌}
use native.Mathlib.Omega.{arith}
use mathlib.Core.Path.{◌≡◌, refl, sym, ap, ◌∙◌}
use mathlib.Core.Bool.{Bool, true, false}
use mathlib.Core.List.{◌++◌}
use lib.ListN.{length, take, drop}
use lib.Seq.{take-append_seam}
use Rattle.text.specs.Text.{Bytes, bytes}
use Rattle.text.specs.Buffer.{placed, written}
use Rattle.std.specs.Prelude.{Option, Some, None, Err, ok_or}
use Rattle.std.proofs.lemmas.Option.{same_Some}
use Rattle.text.proofs.Places.{fitted, fitted_not, length_placed}
use Rattle.net.specs.Net.{pick}
use Rattle.net_writing.specs.Writing.{together}
use Rattle.refusals.specs.declared.Refusal.TheVariants.{ShortBuffer}
use Rattle.soak.specs.Soak.{told, sized, soak_text, answer_of, answered, called}
use Rattle.soak.specs.Words.{then_all, all_the_words}
use Rattle.soak.proofs.Steps.{Left, joined}
use Rattle.soak.proofs.Texts.{whole_text}
use Rattle.soak.proofs.Bound.{Sizes, words_bound, text_bound}

-- w is what the first n bytes are
pub record Front (later : Bytes) (n : ℕ) (w : Bytes) : Type 0 where
  pub long : n ≡ length w
  pub fits : n ≤ length later
  pub is : take n later ≡ w

front_of : (room w later : Bytes) (n : ℕ) → length w ≤ length room → (later, Some n) ≡ written room 0 w → Front later n w
front_of room w later n h e =
    let fits : 0 + length w ≤ length room = omega arith in
    let whole : ◌≡◌ {A = Left} (later, Some n) (placed room 0 w, Some (0 + length w)) = e ∙ sym (fitted room 0 (length w) w (placed room 0 w) refl fits refl) in
    let left : later ≡ placed room 0 w = ap (λ (s : Left). s.0) whole in
    let long : n ≡ length w = same_Some n (0 + length w) (ap (λ (s : Left). s.1) whole) ∙ omega arith in
    record {
      long = long;
      fits = omega (arith, ap length left, length_placed room 0 w fits);
      is = rw (left, long) (take-append_seam w (drop (0 + length w) room));
    }

-- the text, written word behind word
words_are : (seed places transitions : ℕ) (room : Bytes) → seed < 2 ^ 64 → Sizes places transitions → length room ≡ 1614
    → then_all (written room 0 (bytes "(net\n")) (all_the_words seed places transitions) ≡ written room 0 (soak_text seed places transitions)
words_are seed places transitions room h z size =
    let fits : 0 + length (bytes "(net\n" ++ together (all_the_words seed places transitions)) ≤ length room = omega (arith, words_bound seed places transitions h z) in
    joined room (bytes "(net\n") (all_the_words seed places transitions) fits ∙ ap (written room 0) (whole_text seed places transitions)

pub text_in : (seed places transitions : ℕ) (room later : Bytes) (n : ℕ) → seed < 2 ^ 64 → Sizes places transitions → length room ≡ 1614
    → (later, Some n) ≡ then_all (written room 0 (bytes "(net\n")) (all_the_words seed places transitions)
    → Front later n (soak_text seed places transitions)
text_in seed places transitions room later n h z size e =
    front_of room (soak_text seed places transitions) later n (omega (arith, text_bound seed places transitions h z)) (e ∙ words_are seed places transitions room h z size)

-- the room is long enough
pub never_short : (seed places transitions : ℕ) (room later : Bytes) → seed < 2 ^ 64 → Sizes places transitions → length room ≡ 1614
    → (later, None) ≡ then_all (written room 0 (bytes "(net\n")) (all_the_words seed places transitions) → ⊥
never_short seed places transitions room later h z size e =
    fitted_not room 0 (soak_text seed places transitions) (omega (arith, text_bound seed places transitions h z)) (e ∙ words_are seed places transitions room h z size)

-- ---- the call

-- a text that did not fit is refused
pub told_or : (r : Option ℕ) → told (ok_or r ShortBuffer) ≡ answer_of r
told_or (Some n) = refl
told_or None = refl

pub call_answers : (out : Bytes) (seed places transitions : ℕ) (x : Bool) (later : Bytes) (end : Option ℕ) → x ≡ sized places transitions → x ≡ true
    → (later, end) ≡ written out 0 (soak_text seed places transitions)
    → (later, answer_of end) ≡ called out seed places transitions
unfolding called
call_answers out seed places transitions x later end e t w =
    ap answered w
    ∙ ap (λ (y : Bool). pick y (answered (written out 0 (soak_text seed places transitions))) (out, Err 2)) (sym t ∙ e)

pub call_refuses : (out : Bytes) (seed places transitions : ℕ) (x : Bool) → x ≡ sized places transitions → x ≡ false
    → (out, Err 2) ≡ called out seed places transitions
unfolding called
call_refuses out seed places transitions x e t =
    ap (λ (y : Bool). pick y (answered (written out 0 (soak_text seed places transitions))) (out, Err 2)) (sym t ∙ e)
