-- `write_reason` meets its contract: what `put_text` answers, in the words of `answered`.
use mathlib.Core.Path.{ap, ◌∙◌}
use Prim.Native.Nat.{ℕ}
use Rattle.std.specs.Prelude.{Result}
use Rattle.refusals.specs.declared.Refusal.{Refusal}
use Rattle.reason.specs.Call.{told}
use Rattle.reason.proofs.Cases.{shown, answered_is}
use Rattle.reason.proofs.writing.write_reason.Goals as goal

pub returns : goal.returns
returns c =
    ap (λ (r : Result ℕ Refusal). (c.put_text.new.out, told r)) c.ok_or.ensures.value ∙ ap shown c.put_text.ensures ∙ answered_is c.args.out.now _
