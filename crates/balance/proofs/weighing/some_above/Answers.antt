use Rattle.std.proofs.Common.{ℕ, Bool, ltb, ◌∙◌, rules}
use borrow.Author.Tests.{tests}
use Rattle.std.proofs.lemmas.Iterator.{YieldsList-from_slice}
use Rattle.std.proofs.lemmas.Iterator.Search.{any_from_yields_List}
use Rattle.balance.proofs.Asked.{above}
use Rattle.balance.proofs.weighing.some_above.Goals as goal

pub returns : goal.returns
returns c =
    let heavy : ℕ → Bool = λ (x : ℕ). ltb 1_000 x in
    any_from_yields_List heavy _ _ c.any.result c.any.ensures.ran (YieldsList-from_slice c.args.weights.now cc) (λ x b q k. search (rules, tests))
    ∙ above c.args.weights.now
