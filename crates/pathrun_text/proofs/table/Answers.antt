-- `table` meets its contract: it is the definition's repeat.
use mathlib.Core.Path.{refl}
use Rattle.pathrun_text.specs.Pathrun.{table}
use Rattle.pathrun_text.proofs.table.Goals as goal

pub returns : goal.returns
unfolding table
returns c = refl
