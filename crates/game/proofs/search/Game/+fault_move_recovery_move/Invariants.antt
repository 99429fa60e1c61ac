-- The measure of each move is the turns left. Each has a loop over the transitions, whose invariant says that what was examined and what is left to try is
-- the whole; proofs/Turns has a lemma for each way through a turn and each way out.
use Rattle.engine.specs.Engine.{marking}
use Rattle.game.specs.Play.{game_in}
use Rattle.game.proofs.Turns as Turns
use Rattle.game.proofs.search.Game.+fault_move_recovery_move.Given as goal

abbrev pub decreases-fault_move : goal.decreases-fault_move
decreases-fault_move l = l.left

abbrev pub decreases-recovery_move : goal.decreases-recovery_move
decreases-recovery_move l = l.left

abbrev pub invariant-fault_move-loop-j : goal.invariant-fault_move-loop-j
invariant-fault_move-loop-j l =
    Turns.FaultTurn (game_in l.self) l.left (marking l.self.net.now.places l.counts) l.self.sides.now l.self.net.now.transitions l.examined l.moved l.j

abbrev pub invariant-recovery_move-loop-j : goal.invariant-recovery_move-loop-j
invariant-recovery_move-loop-j l =
    Turns.RecoveryTurn (game_in l.self) l.left (marking l.self.net.now.places l.counts) l.self.sides.now l.self.net.now.transitions l.examined l.replied l.j
