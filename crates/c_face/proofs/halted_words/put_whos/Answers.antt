-- The first k of them are put.
use borrow.Author.Rules.{rules}
use native.Mathlib.Omega.{arith}
use Rattle.c_face.proofs.Putting.{put_none, put_more, put_all}
use Rattle.c_face.proofs.halted_words.put_whos.Goals as goal

pub loop-k-init : goal.loop-k-init
loop-k-init c = (search rules, put_none _ _ _)

pub loop-k-preserved : goal.loop-k-preserved
loop-k-preserved c =
    let l = c.loop-k in
    (l.invariant.0, put_more l.invariant.1 (omega arith))

pub returns : goal.returns
returns c = put_all c.loop-k.invariant.1 (omega arith) (omega arith)
