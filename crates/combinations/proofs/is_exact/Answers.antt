-- `is_exact` is `exact`: up to the table's bound by `product_exact`, above it by the decision in whole numbers. Assumes nothing.
use mathlib.Core.Path.{sym, ap, ◌∙◌, subst}
use Prim.Native.Nat.{ℕ, ◌≤◌}
use lib.Ieee.{Float}
use Rattle.combinations.specs.Binomial.{exact}
use Rattle.combinations.proofs.Steps.{product_exact}
use Rattle.combinations.proofs.is_exact.Goals as goal

pub returns-then-m-unrounded : goal.returns-then-m-unrounded
returns-then-m-unrounded c =
    let a = c.args in
    let h = c.requires in
    sym (ap (λ (v : Float). exact v a.m a.w) h.2
    ∙ product_exact a.m a.w h.0 h.1 (subst (λ (n : ℕ). a.m ≤ n) c.unrounded.ensures c.if-m-unrounded.true))
