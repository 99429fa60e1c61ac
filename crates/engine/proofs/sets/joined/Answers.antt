-- By the arm taken: the bits of the word with the one at j, or those of the word alone. Assumes nothing.
use Prim.Native.Nat.{ℕ}
use mathlib.Core.Path.{sym, ap, ◌∙◌}
use mathlib.Core.Bool.{Bool, ◌&&◌, ◌||◌, or-false}
use lib.Dec.{eqb}
use Rattle.words.specs.Bits.{bit}
use Rattle.words.proofs.Bits.{bit_or_lem, bit_one, one_shifted}
use Rattle.engine.proofs.sets.joined.Goals as goal

pub returns-then-on : goal.returns-then-on
returns-then-on c =
    let s = c.args in
    λ i.
    bit_or_lem s.word _ i
    ∙ ap (λ (x : ℕ). bit s.word i || bit x i) (one_shifted s.j c.requires)
    ∙ ap (λ (b : Bool). bit s.word i || b) (bit_one s.j i)
    ∙ ap (λ (b : Bool). bit s.word i || (b && eqb i s.j)) (sym c.if-on.true)

pub returns : goal.returns
returns c =
    let s = c.args in
    λ i. sym (or-false (bit s.word i)) ∙ ap (λ (b : Bool). bit s.word i || (b && eqb i s.j)) (sym c.if-on.false)
