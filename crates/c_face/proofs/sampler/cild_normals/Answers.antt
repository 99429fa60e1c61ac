-- `c_face::sampler::cild_normals` meets its contract: what `fill` ensures of the sampler lent, read off field by field. Assumes nothing.
use Prim.Native.Nat.{ℕ}
use mathlib.Core.Path.{ap, ◌∙◌}
use mathlib.Core.List.{List}
use Rattle.c_face.specs.Normals.{Filled, sampler_from}
use Rattle.c_face.proofs.sampler.cild_normals.Goals as goal

pub returns : goal.returns
returns c =
    let f = c.fill-r in
    let e = rw c.from_state.ensures at f.ensures in (
      ap (λ (x : Filled). x.count) e,
      ap (λ (x : Filled). x.cells) e,
      ap (λ (w : List ℕ). sampler_from w f.result.sampler.spare f.result.sampler.waiting) c.state.ensures ∙ ap (λ (x : Filled). x.sampler) e,
    )
