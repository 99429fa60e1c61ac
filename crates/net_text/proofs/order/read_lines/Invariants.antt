-- What is read from here on is what is read of the whole text (Turns).
use Rattle.std.proofs.Common.{length}
use Rattle.net_text.proofs.Turns.{Going}
use Rattle.net_text.proofs.order.read_lines.Given as goal

abbrev pub invariant-loop-left : goal.invariant-loop-left
invariant-loop-left l = Going l.text l.net l.stage l.left l.number

abbrev pub decreases-loop-left : goal.decreases-loop-left
decreases-loop-left l = length l.left
