-- By the end. Assumes nothing.
use mathlib.Core.Path.{refl}
use Rattle.playing.proofs.shown.finish.Goals as goal

pub returns-in-Halted : goal.returns-in-Halted
returns-in-Halted c = rw c.in-Halted.is refl

pub returns-in-Refused : goal.returns-in-Refused
returns-in-Refused c = rw c.in-Refused.is c.clear.ensures
