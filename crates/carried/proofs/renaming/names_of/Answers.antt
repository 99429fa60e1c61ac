-- From the last pair to the first, the table holds the new numbers that the pairs from pair i on give (proofs/Named). A number past the table
-- is nobody's in it. Assumes nothing.
use Rattle.std.proofs.Common.{◌≡◌, arith}
use Rattle.carried.proofs.Named.{named_start, named_in, named_out}
use Rattle.carried.proofs.renaming.names_of.Goals as goal

pub loop-k-init : goal.loop-k-init
loop-k-init c = (omega arith, named_start c.args.pairs.now)

pub loop-k-preserved-then-a-lt64 : goal.loop-k-preserved-then-a-lt64
loop-k-preserved-then-a-lt64 c =
    let l = c.loop-k in
    let ws = c.args.pairs.now in
    (omega arith, named_in ws l.names l.k l.invariant.0 c.loop-k-test.true l.invariant.1 c.if-a-lt64.true)

pub loop-k-preserved : goal.loop-k-preserved
loop-k-preserved c =
    let l = c.loop-k in
    let ws = c.args.pairs.now in
    (omega arith, named_out ws l.names l.k l.invariant.0 c.loop-k-test.true l.invariant.1 c.if-a-lt64.false)

pub returns : goal.returns
returns c =
    let e : c.loop-k.k ≡ 0 = omega arith in
    rw e at c.loop-k.invariant.1
