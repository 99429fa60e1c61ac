-- By the kind; up to the bound of the weight the ways are exact (`exact_to`), above it `exact_ways` says. Assumes nothing.
use mathlib.Core.Path.{sym, ap, ◌∙◌, subst}
use mathlib.Core.Bool.{Bool, ◌&&◌, not}
use Prim.Native.Nat.{ℕ, ◌^◌, ◌≤◌, ◌<◌}
use native.Mathlib.Omega.{arith}
use borrow.Author.Tests.{eq-eqb, ne_eqb}
use lib.ListN.{get_or}
use Rattle.net.specs.Net.{amount}
use Rattle.combinations.specs.Theorems.{unrounded}
use Rattle.rules.specs.Exact.{exact_ways}
use Rattle.engine.proofs.Arcs.{amount_pos}
use Rattle.engine.proofs.OneWay.{exact_to}
use Rattle.engine.proofs.rounding.inexact_slot.Goals as goal

pub returns-then-count-unrounded : goal.returns-then-count-unrounded
returns-then-count-unrounded c =
    let u = c in
    let a = u.args in
    sym (ap not (exact_to a.weight a.count (subst (λ (n : ℕ). a.count ≤ n) u.unrounded.ensures c.if-count-unrounded.true)))
    ∙ sym (ap (λ (b : Bool). b && not (exact_ways a.count (amount a.weight))) (eq-eqb a.kind 0 u.if-kind-eq-KINETIC_TAKE.true))

-- above the bound of 0 tokens, which is 2^53, there is no count
pub returns-then-kind-eq-KINETIC_TAKE : goal.returns-then-kind-eq-KINETIC_TAKE
unfolding exact_ways
returns-then-kind-eq-KINETIC_TAKE c =
    let u = c in
    let s = u in
    let a = s.args in
    let above : get_or unrounded a.weight 0 < a.count = subst (λ (n : ℕ). n < a.count) u.unrounded.ensures c.if-count-unrounded.false in
    ap not c.exact_ways.ensures
    ∙ ap (λ (w : ℕ). not (exact_ways a.count w))
    (sym (amount_pos a.weight (λ e. let over : 2 ^ 53 < a.count = subst (λ (w : ℕ). get_or unrounded w 0 < a.count) e above in omega (arith, s.requires))))
    ∙ sym (ap (λ (b : Bool). b && not (exact_ways a.count (amount a.weight))) (eq-eqb a.kind 0 u.if-kind-eq-KINETIC_TAKE.true))

pub returns : goal.returns
returns c =
    let a = c.args in
    sym (ap (λ (b : Bool). b && not (exact_ways a.count (amount a.weight))) (ne_eqb a.kind 0 c.if-kind-eq-KINETIC_TAKE.false))
