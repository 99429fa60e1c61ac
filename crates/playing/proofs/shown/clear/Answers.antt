-- One value in the first cells, as a list of it before the others. Assumes nothing.
use Rattle.std.proofs.Common.{◌∙◌}
use Rattle.net.specs.Net.{zero64}
use Rattle.averages.proofs.Fronts.{on_front_one}
use Rattle.playing.proofs.shown.clear.Goals as goal

pub returns : goal.returns
returns c = c.clear.ensures ∙ on_front_one zero64 c.args.cells c.args.table.now c.requires
