-- The rest of the digits, behind the value so far, comes to the whole (Digits).
use Rattle.replay_io.proofs.Digits.{Rest}
use Rattle.replay_io.proofs.word.Given as goal

abbrev pub invariant-loop-b : goal.invariant-loop-b
invariant-loop-b l = Rest l.digits l.b-index l.n
