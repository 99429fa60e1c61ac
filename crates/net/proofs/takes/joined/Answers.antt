-- By the arm taken: the bits of the word with the one at p, or those of the word alone. Assumes nothing.
use Prim.Native.Nat.{ℕ}
use mathlib.Core.Path.{sym, ap, ◌∙◌}
use mathlib.Core.Bool.{Bool, ◌&&◌, ◌||◌}
use borrow.Author.Tests.{lt-ltb}
use lib.Dec.{eqb}
use Rattle.words.specs.Bits.{bit}
use Rattle.words.proofs.Bits.{bit_or_lem, bit_one, one_shifted}
use Rattle.net.proofs.Twice.{eqb_swap}
use Rattle.net.proofs.takes.joined.Goals as goal

pub returns-then-p-lt64 : goal.returns-then-p-lt64
returns-then-p-lt64 c =
    let s = c.args in
    λ q.
    bit_or_lem s.seen _ q
    ∙ ap (λ (x : ℕ). bit s.seen q || bit x q) (one_shifted s.p c.if-p-lt64.true)
    ∙ ap (λ (b : Bool). bit s.seen q || b) (bit_one s.p q ∙ eqb_swap q s.p)
    ∙ ap (λ (b : Bool). bit s.seen q || (b && eqb s.p q)) (sym (lt-ltb s.p 64 c.if-p-lt64.true))
