-- Two texts are equal exactly where what they are made of is equal: the text reads back as its parts (ReadBack). And there is a text exactly where something
-- gates. Assumes nothing.
use Prim.Native.Nat.{ℕ, zero, suc}
use mathlib.Core.Path.{◌≡◌, refl, sym, ap, ◌∙◌}
use native.Mathlib.Omega.{arith}
use mathlib.Core.Bool.{Bool, true, false, ◌||◌, not}
use mathlib.Core.Logic.{◌↔◌}
use mathlib.Core.List.{List, [], ◌∷◌, ◌++◌}
use lib.Dec.{ltb}
use borrow.Author.Tests.{lt-ltb}
use Rattle.net.specs.Tests.{empty}
use Rattle.text.specs.Text.{Bytes}
use Rattle.net_text.specs.Forms.{met}
use Rattle.reason.specs.Reasons.{Reasons, opening, read_words, inhibitor_words, non_kinetic_words, counted, bracketed, timed, sentences, told, reason_text}
use Rattle.reason.proofs.ReadBack.{Labels, reads_back, read_back}

-- "Two gated nets have equal texts exactly when their counts, their bounded labels in the text's order and their delay mark are equal". It holds of all nets:
-- those that are not gated have equal parts and equal texts.
pub same_text : (r s : Reasons) → Labels r.bounded → Labels s.bounded → (reason_text r ≡ reason_text s) ↔ (r ≡ s)
same_text r s hr hs = (there, λ e. ap reason_text e)
  where
    there : reason_text r ≡ reason_text s → r ≡ s
    there e =
        let read : met r [] ≡ met s [] = sym (read_back r hr) ∙ ap reads_back e ∙ read_back s hs in
        cc

-- the opening has bytes
no_byte : (ss : List Bytes) → empty (told ss) ≡ empty ss
unfolding opening
no_byte [] = refl
no_byte (s ∷ ss) = refl

above_zero : (n : ℕ) → ltb 0 (suc n) ≡ true
above_zero n = lt-ltb 0 (suc n) (omega arith)

no_sentence : (a b c : ℕ) (ls : List Bytes) (d : Bool)
    → empty (counted a read_words ++ (counted b inhibitor_words ++ (counted c non_kinetic_words ++ (bracketed ls ++ timed d))))
    ≡ not (ltb 0 a || ltb 0 b || ltb 0 c || not (empty ls) || d)
no_sentence (suc a) b c ls d = rw (above_zero a)
no_sentence zero (suc b) c ls d = rw (above_zero b)
no_sentence zero zero (suc c) ls d = rw (above_zero c)
no_sentence zero zero zero (l ∷ ls) d = refl
no_sentence zero zero zero [] true = refl
no_sentence zero zero zero [] false = refl

-- no byte exactly where no part is there
pub no_text : (r : Reasons) → empty (reason_text r) ≡ not (ltb 0 r.reads || ltb 0 r.inhibitors || ltb 0 r.non_kinetic || not (empty r.bounded) || r.delayed)
unfolding reason_text
no_text r = no_byte (sentences r) ∙ no_sentence r.reads r.inhibitors r.non_kinetic r.bounded r.delayed
