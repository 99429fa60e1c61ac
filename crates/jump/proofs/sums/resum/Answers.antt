-- The sums before j are good, and the sum in hand is that of the first j (Summing). Assumes nothing.
use Rattle.jump.proofs.Summing.{summing_none, summing_more}
use Rattle.jump.proofs.sums.resum.Goals as goal

pub loop-j-init : goal.loop-j-init
loop-j-init c =
    let a = c.args in
    summing_none a.transitions a.props.now c.requires.0 c.requires.2 a.sums.now a.from c.sum_before-sum.result c.requires.1 c.requires.3 c.requires.4 c.sum_before-sum.ensures

pub loop-j-preserved : goal.loop-j-preserved
loop-j-preserved c =
    let l = c.loop-j in
    summing_more c.args.transitions c.args.props.now c.requires.0 c.requires.2 l.sums l.sum l.j l.invariant c.loop-j-test.true
