use Rattle.std.proofs.Common.{◌≡◌, Bool, not, ◌&&◌, leb, drop, length, sym, ap, ◌∙◌, rules, arith, le-leb, length-drop, take_all}
use borrow.Author.Tests.{tests}
use lib.Ieee.{Float, le}
use Rattle.std.proofs.lemmas.Iterator.{YieldsList-from_slice}
use Rattle.std.proofs.lemmas.Iterator.Search.{any_from_yields_List}
use Rattle.net.specs.Tests.{any}
use Rattle.carried.proofs.Rest.{any_found}
use Rattle.carried.proofs.records.records_fit.Goals as goal

pub returns : goal.returns
returns c =
    let s = c.args in
    let passed : Float → Bool = λ (x : Float). le x s.clock in
    let left = drop s.recorded s.instants.now in
    let some : c.any.result ≡ any passed left =
    any_from_yields_List passed _ _ c.any.result c.any.ensures.ran (YieldsList-from_slice left (c.iter.ensures.rest ∙ take_all _ left (omega (arith, length-drop s.recorded s.instants.now)))) (λ x b q k. search (rules, tests)) ∙ any_found passed left in
    ap not some ∙ sym (ap (λ (b : Bool). b && not (any passed left)) (le-leb s.recorded (length s.instants.now) c.if-instants-recorded.false))
