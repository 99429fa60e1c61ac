use Rattle.std.proofs.Common.{◌∙◌}
use borrow.Author.Tests.{tests}
use Rattle.std.proofs.lemmas.Iterator.{YieldsList-from_slice}
use Rattle.std.proofs.lemmas.Iterator.Search.{all_from_yields_List}
use Rattle.std.proofs.Common.{rules}
use Rattle.rules.specs.Change.{cell_fits}
use Rattle.carried.proofs.Rest.{none_amiss}
use Rattle.carried.proofs.records.all_fit.Goals as goal

pub returns : goal.returns
returns c =
    all_from_yields_List cell_fits _ _ _ c.all.ensures.ran (YieldsList-from_slice c.args.cells.now cc) (λ x b q k. search (rules, tests))
    ∙ none_amiss cell_fits c.args.cells.now
