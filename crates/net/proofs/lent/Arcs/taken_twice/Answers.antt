-- The invariant: with the places of the takes so far in the word, what is left to find is the whole. Assumes nothing.
use Prim.Native.Nat.{ℕ, ◌+◌}
use mathlib.Core.Path.{sym, ◌∙◌}
use borrow.Author.Tests.{le-leb, lt-leb}
use lib.Dec.{ltb}
use lib.ListN.{get_or}
use Rattle.words.specs.Bits.{bit}
use Rattle.net.specs.Readable.{lent_from, lent_slots}
use Rattle.net.proofs.Slots.{or_stop, or_go, taken}
use Rattle.net.proofs.Twice.{left, again_none, no_take_turn, take_turn}
use Rattle.net.proofs.lent.Arcs.taken_twice.Goals as goal
use Rattle.net.proofs.lent.Arcs.taken_twice.Goals.{then-self-slot-le-TAKE+else-taken_again, else-self-slot-le-TAKE}

pub loop-slot-init : goal.loop-slot-init
loop-slot-init c = again_none (taken (lent_slots c.args.self.now))

pub returns-then-taken_again : goal.returns-then-taken_again
returns-then-taken_again c =
    let n = c.args.self.now.net.now in
    let a = c.loop-slot.slot in
    or_stop _ _
    (take_turn n.kind.now n.place.now n.weight.now a c.args.self.now.end (bit c.loop-slot.seen) (ltb (get_or n.place.now a 0) 64) c.loop-slot-test.true c.loop-slot.invariant (le-leb _ _ c.if-self-slot-le-TAKE.true))
    (sym c.taken_again.ensures ∙ c.if-taken_again.true)

pub loop-slot-preserved : goal.loop-slot-preserved
loop-slot-preserved c =
    let n = c.args.self.now.net.now in
    let a = c.loop-slot.slot in
    let met = bit c.loop-slot.seen in
    elim c.if-self-slot-le-TAKE.branch [
      | then-self-slot-le-TAKE+else-taken_again w ↦
          rw w.seen-is
          ((λ j. left (λ (q : ℕ). w.joined-seen.ensures q j) (lent_from c.args.self.now (a + 1)))
          ∙ or_go _ _
          (take_turn n.kind.now n.place.now n.weight.now a c.args.self.now.end met (ltb (get_or n.place.now a 0) 64) c.loop-slot-test.true c.loop-slot.invariant (le-leb _ _ w.if-self-slot-le-TAKE.true))
          (sym w.taken_again.ensures ∙ w.if-taken_again.false))
      | else-self-slot-le-TAKE w ↦
          rw w.seen-is (no_take_turn _ _ _ _ _ met c.loop-slot-test.true c.loop-slot.invariant (lt-leb _ _ w.if-self-slot-le-TAKE.false))
    ]
