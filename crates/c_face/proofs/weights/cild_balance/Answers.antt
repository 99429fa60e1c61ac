-- What `balance` ensures of the fields lent, told in numbers. Assumes nothing.
use mathlib.Core.Path.{ap, ◌∙◌}
use Rattle.c_face.specs.Weighed.{told_of}
use Rattle.c_face.proofs.weights.cild_balance.Goals as goal

pub returns : goal.returns
returns c = c.balance_numbers.ensures ∙ ap told_of c.balance-r.ensures
