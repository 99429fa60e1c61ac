-- By the flag. Assumes nothing.
use mathlib.Core.Path.{sym, ap}
use mathlib.Core.Bool.{Bool}
use Rattle.rules.specs.Step.{given}
use Rattle.playing.specs.Playing.{out_of}
use Rattle.playing.proofs.run.out.Goals as goal

pub returns-then-halts : goal.returns-then-halts
returns-then-halts c = sym (ap (λ (b : Bool). given (out_of b)) c.if-halts.true)

pub returns : goal.returns
returns c = sym (ap (λ (b : Bool). given (out_of b)) c.if-halts.false)
