-- The counts are the initial ones in the places that are copied, and 0 behind them. Assumes nothing.
use Prim.Native.Nat.{ℕ, ◌^◌, ◌≤◌, ◌<◌}
use mathlib.Core.Path.{◌≡◌, refl, ap, ◌∙◌, subst⁻¹}
use mathlib.Core.List.{List, ◌++◌}
use native.Mathlib.Omega.{arith}
use lib.ListN.{length, get_or, take, drop, replicate, length-append, get_or-append}
use lib.Seq.{get_or-take, length-take-le}
use Rattle.std.proofs.Common.{length-drop}
use Rattle.engine.specs.Engine.{AtMost, Counts, counts_from}
use Rattle.engine.proofs.Lists.{first_all, each_zero, most_append, most_take, most_drop}
use Rattle.engine.proofs.slots.first_counts.Goals as goal

copied : (k : ℕ) (xs zs new : List ℕ) → k ≤ length xs → k ≤ 32 → length zs ≡ 32 → ((p : ℕ) → p < k → get_or xs p 0 ≤ 2 ^ 53) → AtMost (2 ^ 53) zs → new ≡ take k xs
    → (take k (new ++ drop k zs) ≡ counts_from xs 0 k) × Counts (new ++ drop k zs)
copied k xs zs new l k32 lz f g e =
    let n : length new ≡ k = ap (length {A = ℕ}) e ∙ length-take-le k xs l in
    let all : length (new ++ drop k zs) ≡ 32 = omega (arith, length-append new (drop k zs), length-drop k zs) in (
      first_all k (new ++ drop k zs) xs (omega arith) (λ i h. get_or-append new (drop k zs) 0 i (omega arith) ∙ ap (λ (ys : List ℕ). get_or ys i 0) e ∙ get_or-take k xs i 0 h),
      record { long = all; small = most_append (2 ^ 53) new (drop k zs) (subst⁻¹ (AtMost (2 ^ 53)) e (most_take (2 ^ 53) k xs f)) (most_drop (2 ^ 53) k zs g) },
    )

pub returns : goal.returns
returns c =
    copied c.args.places c.args.initial.now (replicate 32 0) _ (omega (arith, c.told-initial)) c.requires.0 refl c.requires.1 (each_zero (λ (x : ℕ). x ≤ 2 ^ 53) 32 (omega arith))
    c.copy_from_slice.ensures.after
