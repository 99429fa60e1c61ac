use Rattle.std.proofs.Common.{ℕ, ◌^◌, take, leb, ◌∙◌, rules}
use borrow.Author.Tests.{tests}
use Rattle.std.proofs.lemmas.Iterator.{YieldsList-from_slice}
use Rattle.std.proofs.lemmas.Iterator.Search.{all_from_yields_List}
use Rattle.carried.proofs.Rest.{few_counts}
use Rattle.carried.proofs.state.counts_fit.Goals as goal

pub returns : goal.returns
returns c =
    let all = take c.args.places c.args.counts.now in
    all_from_yields_List (λ (x : ℕ). leb x (2 ^ 53)) _ _ _ c.all.ensures.ran (YieldsList-from_slice all cc) (λ x b q k. search (rules, tests)) ∙ few_counts all
