-- `c_face::diffusion::diffusion_numbers` meets its contract: the case that the answer is says its numbers; the mask of the bits of a mask is the mask. Assumes
-- nothing.
use mathlib.Core.Path.{sym, ap, ap₂, ◌∙◌}
use mathlib.Core.List.{[], ◌∷◌}
use Prim.Native.Nat.{ℕ}
use native.Mathlib.Omega.{arith}
use Rattle.sde.specs.declared.DiffusionAnswer.{DiffusionAnswer}
use Rattle.sde.specs.Call.{outcome_of}
use Rattle.c_face.specs.Diffused.{told_of}
use Rattle.c_face.proofs.Mask.{mask_whole}
use Rattle.c_face.proofs.Flags.{flag}
use Rattle.c_face.proofs.diffusion.diffusion_numbers.Goals as goal

pub returns-in-Averaged : goal.returns-in-Averaged
returns-in-Averaged c =
    ap (λ (d : ℕ). 0 ∷ d ∷ 0 ∷ 0 ∷ 0 ∷ 0 ∷ 0 ∷ []) (c.from.ensures ∙ flag c.in-Averaged.deviations)
    ∙ ap (λ (z : DiffusionAnswer). told_of (outcome_of z)) (sym c.in-Averaged.is)

pub returns-in-Gated : goal.returns-in-Gated
returns-in-Gated c =
    let g = c.in-Gated.g in
    ap₂ (λ (m d : ℕ). 100 ∷ 0 ∷ g.reads ∷ g.inhibitors ∷ g.nonkinetic ∷ m ∷ d ∷ [])
    (sym (mask_whole g.bounded (omega arith))) (c.from-in-Gated.ensures ∙ flag g.delayed)
    ∙ ap (λ (z : DiffusionAnswer). told_of (outcome_of z)) (sym c.in-Gated.is)
