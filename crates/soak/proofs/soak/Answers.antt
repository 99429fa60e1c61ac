-- `soak` meets its contract: the two arms are the two cases of the definition.
use Prim.Native.Nat.{ℕ}
use mathlib.Core.Path.{ap, ◌∙◌}
use Rattle.std.specs.Prelude.{Result}
use Rattle.refusals.specs.declared.Refusal.{Refusal}
use Rattle.soak.specs.Soak.{told}
use Rattle.soak.proofs.Placed.{told_or, call_answers, call_refuses}
use Rattle.soak.proofs.soak.Goals as goal

pub returns-then-not-sizes_fit : goal.returns-then-not-sizes_fit
returns-then-not-sizes_fit c =
    let a = c.args in
    call_refuses a.out.now a.seed a.places a.transitions _ c.sizes_fit.ensures c.if-not-sizes_fit.true

pub returns : goal.returns
returns c =
    let a = c.args in
    let out = c.put_text.new.out in
    ap (λ (r : Result ℕ Refusal). (out, told r)) c.ok_or.ensures.value
    ∙ ap (λ (r : Result ℕ ℕ). (out, r)) (told_or c.put_text.result)
    ∙ call_answers a.out.now a.seed a.places a.transitions _ _ _ c.sizes_fit.ensures c.if-not-sizes_fit.false c.put_text.ensures
