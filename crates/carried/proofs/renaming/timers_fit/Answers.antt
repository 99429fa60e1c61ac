use Rattle.std.proofs.Common.{◌≡◌, ℕ, length, take, Bool, ◌∙◌, rules, arith, refl}
use borrow.Author.Tests.{tests}
use Rattle.std.proofs.lemmas.Iterator.{YieldsList-from_slice}
use Rattle.std.proofs.lemmas.Iterator.Search.{all_from_yields_List}
use Rattle.rules.specs.Timers.{Timer}
use Rattle.carried.specs.Pairs.{goes_to}
use Rattle.carried.specs.Timers.{slot}
use Rattle.carried.proofs.Waiting.{array_read, all_along}
use Rattle.carried.proofs.renaming.timers_fit.Goals as goal

pub returns : goal.returns
returns c =
    let s = c.args in
    let p : ℕ → Bool = goes_to s.names.now s.delayed in
    let long : length s.whos.now ≡ 256 = search rules in
    λ ats takens.
    all_from_yields_List p _ _ _ c.all.ensures.ran (YieldsList-from_slice (take s.n s.whos.now) cc) (λ x b q k. search (rules, tests))
    ∙ all_along p (λ (x : Timer). x.who) _ _ (array_read _ (slot ats s.whos.now takens) s.whos.now 0 (λ j. refl) s.n (omega arith) (omega arith))
