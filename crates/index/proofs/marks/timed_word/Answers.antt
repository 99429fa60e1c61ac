-- The transitions before j are marked where their delay is above 0 (Marking). Assumes nothing.
use Prim.Native.Nat.{ℕ}
use mathlib.Core.Path.{refl}
use Rattle.net.specs.Net.{timed}
use Rattle.net.specs.Readable.{transition}
use Rattle.net.specs.Record.{net_of}
use Rattle.index.proofs.Marking.{marked_none, marked_more, marked_all, net_marks}
use Rattle.index.proofs.marks.timed_word.Goals as goal

pub loop-j-init : goal.loop-j-init
loop-j-init c = let n = net_of c.args.net.now in marked_none (λ (j : ℕ). timed (transition n j)) n.transitions

pub loop-j-preserved : goal.loop-j-preserved
loop-j-preserved c =
    let n = net_of c.args.net.now in
    let l = c.loop-j in
    marked_more (λ (j : ℕ). timed (transition n j)) n.transitions l.word c.joined-word.result l.j _ l.invariant c.loop-j-test.true refl c.joined-word.ensures

pub returns : goal.returns
returns c =
    let n = net_of c.args.net.now in
    let l = c.loop-j in
    net_marks n timed l.word (marked_all (λ (j : ℕ). timed (transition n j)) n.transitions l.word l.j l.invariant c.loop-j-test.false)
