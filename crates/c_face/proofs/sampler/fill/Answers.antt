-- The loop is a filling whose state is the sampler.
use native.Mathlib.Omega.{arith}
use mathlib.Core.Path.{sym, ap, ◌∙◌}
use Rattle.normals.specs.Normal.{Drawn, answer_of}
use Rattle.c_face.proofs.Filling.{filling_none, filling_more, filling_stop, filling_end}
use Rattle.c_face.proofs.sampler.fill.Goals as goal

pub loop-i-init : goal.loop-i-init
loop-i-init c = filling_none _ _

pub returns-in_default : goal.returns-in_default
returns-in_default c =
    let n = c.normal-drawn.ensures in
    filling_stop c.loop-i.invariant (omega arith)
    (sym (ap answer_of c.in_default.is) ∙ ap (λ (d : Drawn). d.answer) n) (ap (λ (d : Drawn). d.sampler) n)

pub loop-i-preserved : goal.loop-i-preserved
loop-i-preserved c =
    let n = c.normal-drawn.ensures in
    filling_more c.loop-i.invariant (omega arith)
    (sym (ap answer_of c.in-Ok.is) ∙ ap (λ (d : Drawn). d.answer) n) (ap (λ (d : Drawn). d.sampler) n)

pub returns : goal.returns
returns c = filling_end c.loop-i.invariant (omega (arith, c.loop-i.invariant.within, c.loop-i.invariant.same))
