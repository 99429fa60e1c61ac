-- The call's answer and the definition are both true exactly where one of the first delays is above 0. Assumes nothing.
use Rattle.std.proofs.Common.{◌≡◌, ◌∙◌, sym, ℕ, ◌<◌, Bool, true, false, List, length, take, Decides, MatchBool, refl, arith, rules, tests}
use Rattle.std.specs.Float.{Float}
use Rattle.std.specs.Float.Ieee.{lt}
use Rattle.std.specs.List.{HoldsAt, AllWithin}
use Rattle.std.proofs.lemmas.Iterator.{cases_from_any, YieldsList-from_slice}
use Rattle.std.proofs.lemmas.Bool.{false≢true}
use Rattle.std.proofs.lemmas.Bool.Decides.{same_from_decides, Decides-by_or}
use Rattle.net.specs.Net.{zero64}
use Rattle.engine.specs.Engine.{some_above}
use Rattle.engine.proofs.slots.any_timed.Goals as goal

abbrev Above : List Float → Type 0
Above ds = (k : ℕ) × (k < length ds) × HoldsAt (λ d. lt zero64 d ≡ true) ds k

Decides-from_cases : (r : Bool) (ds : List Float) → MatchBool r (Above ds) (AllWithin (λ d. lt zero64 d ≡ false) ds 0 (length ds)) → Decides r (Above ds)
Decides-from_cases true ds h = (λ _. h, λ _. refl)
Decides-from_cases false ds h =
    (λ e. absurd (false≢true e), λ w. absurd (false≢true (sym (h w.0 zero64 (omega arith) w.1) ∙ w.2 zero64)))

pub returns : goal.returns
returns c =
    let ds = take c.args.transitions c.args.delay.now in
    let by_call = cases_from_any _ _ _ (λ d. lt zero64 d ≡ true) (λ d. lt zero64 d ≡ false) c.any.ensures.ran (YieldsList-from_slice ds cc) (λ d q k. search (rules, tests)) (λ d q k. search (rules, tests)) in
    let by_spec = Decides-by_or (lt zero64) (λ d. lt zero64 d ≡ true) some_above (λ d. (λ e. e, λ e. e)) refl (λ _ _. refl) ds in
    same_from_decides _ (some_above ds) (Decides-from_cases _ ds by_call) by_spec
