use Rattle.std.proofs.Common.{◌≡◌, ℕ, length, take, Bool, not, ltb, ap, ◌∙◌, rules, arith, refl}
use borrow.Author.Tests.{tests}
use Rattle.std.proofs.lemmas.Iterator.{YieldsList-from_slice}
use Rattle.std.proofs.lemmas.Iterator.Search.{any_from_yields_List}
use Rattle.rules.specs.Timers.{Timer}
use Rattle.carried.specs.Timers.{slot}
use Rattle.carried.proofs.Waiting.{array_read, some_along}
use Rattle.carried.proofs.state.weights_fit.Goals as goal

pub returns : goal.returns
returns c =
    let s = c.args in
    let heavy : ℕ → Bool = λ (x : ℕ). ltb 16_000_000 x in
    let long : length s.takens.now ≡ 256 = search rules in
    λ ats whos.
    ap not (
    any_from_yields_List heavy _ _ c.any.result c.any.ensures.ran (YieldsList-from_slice (take s.n s.takens.now) cc) (λ x b q k. search (rules, tests))
    ∙ some_along heavy (λ (x : Timer). x.taken) _ _ (array_read _ (slot ats whos s.takens.now) s.takens.now 0 (λ j. refl) s.n (omega arith) (omega arith))
    )
