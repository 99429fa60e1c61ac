-- Up to the bound of two a product of one or two factors is the whole number (`product_is`), exactly (`product_exact`); above it `pairs` and `exact_pairs` say
-- what it is, or `judged` does. Assumes nothing.
use native.Mathlib.Omega.{arith}
use mathlib.Core.Path.{sym, ap, ◌∙◌}
use Prim.Native.Nat.{ℕ, zero, suc, ◌≤◌}
use lib.ListN.{get_or}
use Rattle.floats.specs.{float}
use Rattle.combinations.specs.Combinations.{value}
use Rattle.combinations.specs.Theorems.{unrounded}
use Rattle.combinations.proofs.Steps.{product_exact, product_is}
use Rattle.combinations.proofs.judged_few.Goals as goal

-- the bounds of fewer are no smaller
within : (m w : ℕ) → w ≤ 2 → m ≤ get_or unrounded 2 0 → m ≤ get_or unrounded w 0
within m zero h l = omega arith
within m (suc zero) h l = omega arith
within m (suc (suc zero)) h l = l
within m (suc (suc (suc w))) h l = absurd (omega arith)

pub returns-then-m-le-UNROUNDED_2 : goal.returns-then-m-le-UNROUNDED_2
returns-then-m-le-UNROUNDED_2 c =
    let m = c.args.m in
    let w = c.args.w in
    let l = within m w c.requires.0 c.if-m-le-UNROUNDED_2.true in
    c.exactly.ensures
    ∙ (λ i. value ((ap float c.few_ways.ensures.0 ∙ sym (product_is m w (omega arith) c.requires.1 l)) i) (sym (product_exact m w (omega arith) c.requires.1 l) i))
