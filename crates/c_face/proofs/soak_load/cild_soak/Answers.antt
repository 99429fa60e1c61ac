-- What `soak` ensures of the buffer lent, read off part by part.
use Prim.Native.Nat.{ℕ}
use mathlib.Core.Path.{ap, ◌∙◌}
use Rattle.std.specs.Prelude.{Result}
use Rattle.text.specs.Text.{Bytes}
use Rattle.c_face.specs.Soaked.{told_of}
use Rattle.c_face.proofs.soak_load.cild_soak.Goals as goal

pub returns : goal.returns
returns c =
    let e = c.soak-answer.ensures in
    (c.soak_numbers.ensures ∙ ap (λ (x : Bytes × Result ℕ ℕ). told_of x.1) e, ap (λ (x : Bytes × Result ℕ ℕ). x.0) e)
