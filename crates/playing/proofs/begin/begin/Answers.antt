-- Part by part. Assumes nothing.
use mathlib.Core.Path.{refl}
use Rattle.playing.proofs.begin.begin.Goals as goal

pub returns : goal.returns
returns c = (c.show-next.ensures, refl, c.empty.ensures, c.sum-tokens.ensures, refl, refl)
