-- By the arm taken: the bit of the place, or, from 64 on, where there is none, the answer for the slots after it. Assumes nothing.
use mathlib.Core.Bool.{or-false}
use borrow.Author.Tests.{lt-ltb, le-ltb}
use Rattle.words.proofs.Bits.{bit_tested, bit_beyond}
use Rattle.net.proofs.lent.Arcs.taken_again.Goals as goal

pub returns-then-p-lt64 : goal.returns-then-p-lt64
returns-then-p-lt64 c = let s = c.args in rw (lt-ltb s.p 64 c.if-p-lt64.true, or-false) (bit_tested s.seen s.p)

pub returns : goal.returns
returns c =
    let s = c in
    rw (bit_beyond 64 s.args.seen s.args.p s.ranges.seen.fits c.if-p-lt64.false, le-ltb s.args.p 64 c.if-p-lt64.false)
    c.taken_in.ensures
