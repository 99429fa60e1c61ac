-- `judged` meets its contract: where it answers true, its tests are what `reached` asks. Assumes nothing.
use Rattle.std.proofs.Common.{refl, sym, ◌∙◌, arith, ltb-true, leb-true}
use Rattle.root.proofs.Squares.{reached}
use Rattle.root.proofs.judged.Goals as goal

-- that the lower words are close is for the last test alone to say: `let c` hides the rest, whose numbers outgrow `omega` where the test says too little
pub returns-then-part-low : goal.returns-then-part-low
returns-then-part-low c test =
    let at = c.args in
    let nearest-if-close =
    reached at.n at.g refl
    (sym c.high.ensures ∙ c.if-high-n.true) c.if-part-low.true in
    let c = test in
    nearest-if-close (omega (arith, ltb-true, leb-true))
