-- The transitions before j are marked where one of their slots is a kinetic take of several tokens (Marking). Assumes nothing.
use Prim.Native.Nat.{ℕ}
use Rattle.net.specs.Readable.{transition}
use Rattle.net.specs.Record.{net_of}
use Rattle.engine.specs.Traits.{takes_several}
use Rattle.index.proofs.Placed.{slots_fit}
use Rattle.index.proofs.Marking.{marked_none, marked_more, marked_all, net_marks, several_slots}
use Rattle.index.proofs.marks.heavy_word.Goals as goal

pub loop-j-init : goal.loop-j-init
loop-j-init c = let n = net_of c.args.net.now in (marked_none (λ (j : ℕ). takes_several (transition n j)) n.transitions, c.requires.transitions)

pub heavy_slots-requires : goal.heavy_slots-requires
heavy_slots-requires c = slots_fit (net_of c.args.net.now) c.requires c.loop-j.j c.loop-j-test.true

pub loop-j-preserved : goal.loop-j-preserved
loop-j-preserved c =
    let n = net_of c.args.net.now in
    let l = c.loop-j in
    let h = c.heavy_slots in (
      marked_more (λ (j : ℕ). takes_several (transition n j)) n.transitions l.word c.joined-word.result l.j h.result l.invariant.0 c.loop-j-test.true
          (several_slots n l.j h.result h.ensures) c.joined-word.ensures,
      l.invariant.1,
    )

pub returns : goal.returns
returns c =
    let n = net_of c.args.net.now in
    let l = c.loop-j in
    net_marks n takes_several l.word (marked_all (λ (j : ℕ). takes_several (transition n j)) n.transitions l.word l.j l.invariant.0 c.loop-j-test.false)
