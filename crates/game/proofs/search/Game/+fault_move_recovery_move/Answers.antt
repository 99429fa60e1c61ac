-- A position that is left at once, the beginning of each loop, and that no count of positions wraps. Each answer takes the measure and what is known.
-- Assumes nothing.
use Rattle.std.proofs.Common.{arith}
use Rattle.engine.specs.Engine.{marking}
use Rattle.game.specs.Play.{fault_of, recovery_of}
use Rattle.game.proofs.Turns as Turns
use Rattle.game.proofs.search.Game.+fault_move_recovery_move.Goals as goal

-- ---- the fault side

pub fault_move-returns-then-counts-self : goal.fault_move-returns-then-counts-self
fault_move-returns-then-counts-self t c = Turns.fault_met c.requires.left_bound.1 c.args.self.now.count c.args.left c.args.counts c.if-counts-self.true

pub fault_move-returns-then-left-eq0 : goal.fault_move-returns-then-left-eq0
fault_move-returns-then-left-eq0 t c =
    Turns.fault_used c.requires.left_bound.1 c.args.self.now.count c.args.left c.args.counts c.if-counts-self.false c.if-left-eq0.true

pub fault_move-loop-j-init : goal.fault_move-loop-j-init
fault_move-loop-j-init t c =
    Turns.fault_begins c.requires.left_bound.1 c.args.self.now.count c.args.left c.args.counts c.if-counts-self.false c.if-left-eq0.false

pub fault_move-overflow_add-examined : goal.fault_move-overflow_add-examined
fault_move-overflow_add-examined t c =
    omega (
      arith,
      Turns.fault_fits c.requires.left_bound.1 c.args.self.now.count c.args.left (marking c.args.self.now.net.now.places c.args.counts) c.requires.left_bound.0 _
          (Turns.fault_room c.loop-j.invariant c.loop-j-test.true c.if-self-j-eq-FAULT.true c.in-Some.ensures.0 c.in-Some.ensures.1
          (recovery_of c.recovery_move-r.result) c.recovery_move-r.ensures),
    )

pub fault_move-overflow_add-examined-2 : goal.fault_move-overflow_add-examined-2
fault_move-overflow_add-examined-2 t c =
    omega (
      arith,
      Turns.fault_fits c.requires.left_bound.1 c.args.self.now.count c.args.left (marking c.args.self.now.net.now.places c.args.counts) c.requires.left_bound.0 _
          (Turns.fault_pass_room c.loop-j.invariant c.loop-j-test.false c.if-moved.false (recovery_of c.recovery_move-r-2.result)
          c.recovery_move-r-2.ensures),
    )

-- ---- the recovery side

pub recovery_move-returns-then-counts-self : goal.recovery_move-returns-then-counts-self
recovery_move-returns-then-counts-self t c =
    Turns.recovery_met c.requires.left_bound.1 c.args.self.now.count c.args.left c.args.counts c.if-counts-self.true

pub recovery_move-returns-then-left-eq0 : goal.recovery_move-returns-then-left-eq0
recovery_move-returns-then-left-eq0 t c =
    Turns.recovery_used c.requires.left_bound.1 c.args.self.now.count c.args.left c.args.counts c.if-counts-self.false c.if-left-eq0.true

pub recovery_move-loop-j-init : goal.recovery_move-loop-j-init
recovery_move-loop-j-init t c =
    Turns.recovery_begins c.requires.left_bound.1 c.args.self.now.count c.args.left c.args.counts c.if-counts-self.false c.if-left-eq0.false

pub recovery_move-overflow_add-examined : goal.recovery_move-overflow_add-examined
recovery_move-overflow_add-examined t c =
    omega (
      arith,
      Turns.recovery_fits c.requires.left_bound.1 c.args.self.now.count c.args.left (marking c.args.self.now.net.now.places c.args.counts) c.requires.left_bound.0 _
          (Turns.recovery_room c.loop-j.invariant c.loop-j-test.true c.if-self-j-ne-FAULT.true c.in-Some.ensures.0 c.in-Some.ensures.1
          (fault_of c.fault_move-r.result) c.fault_move-r.ensures),
    )

pub recovery_move-overflow_add-result : goal.recovery_move-overflow_add-result
recovery_move-overflow_add-result t c =
    omega (
      arith,
      Turns.recovery_fits c.requires.left_bound.1 c.args.self.now.count c.args.left (marking c.args.self.now.net.now.places c.args.counts) c.requires.left_bound.0 _
          (Turns.recovery_pass_room c.loop-j.invariant c.loop-j-test.false c.if-replied.false (fault_of c.fault_move-r-2.result)
          c.fault_move-r-2.ensures),
    )
