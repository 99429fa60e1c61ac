use Rattle.std.proofs.Common.{ℕ, Bool, leb, ◌∙◌, rules}
use borrow.Author.Tests.{tests}
use Rattle.std.proofs.lemmas.Iterator.{YieldsList-from_slice}
use Rattle.std.proofs.lemmas.Iterator.Search.{all_from_yields_List}
use Rattle.game.proofs.Asked.{each_is}
use Rattle.game.proofs.accept.each_side.Goals as goal

pub returns : goal.returns
returns c =
    let known : ℕ → Bool = λ (x : ℕ). leb x 1 in
    all_from_yields_List known _ _ _ c.all.ensures.ran (YieldsList-from_slice c.args.sides.now cc) (λ x b q k. search (rules, tests)) ∙ each_is c.args.sides.now
