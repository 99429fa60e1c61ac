-- The numbers before number i are in their places. A store at i leaves them, and puts the next one in its place. Assumes nothing.
use Rattle.std.proofs.Common.{refl, ◌∙◌, ne_of_lt, arith, length-set, get_or-set_other, get_or-set_same, below_more}
use Rattle.carried.proofs.renaming.new_numbers.Goals as goal

pub loop-i-init : goal.loop-i-init
loop-i-init c = (refl, λ k h. absurd (omega arith))

pub offset_bounds-names-whos : goal.offset_bounds-names-whos
offset_bounds-names-whos c = omega (arith, c.requires.1 c.loop-i.i c.loop-i-test.true)

pub bounds-names-whos : goal.bounds-names-whos
bounds-names-whos c = omega (arith, c.requires.1 c.loop-i.i c.loop-i-test.true)

pub loop-i-preserved : goal.loop-i-preserved
loop-i-preserved c =
    let l = c.loop-i in (
      length-set l.numbers l.i _ ∙ l.invariant.0,
      below_more _ _
          (λ k h. get_or-set_other l.numbers l.i k _ 0 (ne_of_lt h) ∙ l.invariant.1 k h)
          (get_or-set_same l.numbers l.i _ 0 (omega arith)),
    )

pub returns : goal.returns
returns c = λ i h. c.loop-i.invariant.1 i (omega arith)
