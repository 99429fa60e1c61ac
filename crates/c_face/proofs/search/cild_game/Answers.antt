-- What `game` ensures of the fields lent, told in numbers. Assumes nothing.
use mathlib.Core.Path.{ap, ◌∙◌}
use Rattle.c_face.specs.Searched.{told_of}
use Rattle.c_face.proofs.search.cild_game.Goals as goal

pub returns : goal.returns
returns c = c.numbers.ensures ∙ ap told_of c.game-r.ensures.is
