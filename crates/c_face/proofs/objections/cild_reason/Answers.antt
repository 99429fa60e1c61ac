-- What `reason` ensures of the fields lent.
use mathlib.Core.Path.{ap, ◌∙◌}
use Rattle.text.specs.Text.{Bytes}
use Rattle.std.specs.Prelude.{Result}
use Prim.Native.Nat.{ℕ}
use Rattle.c_face.specs.Reasoned.{told_of}
use Rattle.c_face.proofs.objections.cild_reason.Goals as goal

pub returns : goal.returns
returns c =
    let s = c in (
      c.reason_numbers.ensures ∙ ap (λ (x : Bytes × Result ℕ ℕ). told_of x.1) s.reason-answer.ensures,
      ap (λ (x : Bytes × Result ℕ ℕ). x.0) s.reason-answer.ensures,
    )
