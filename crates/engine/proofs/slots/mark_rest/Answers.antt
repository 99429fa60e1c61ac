-- The slots from a on had no limit and are marked, and those before a stand as they did; a turn marks the one before a. Assumes nothing.
use native.Mathlib.Omega.{arith}
use mathlib.Core.Path.{◌≡◌, subst}
use Prim.Native.Nat.{ℕ, ◌+◌, ◌-◌, ◌<◌}
use lib.ListN.{length}
use Rattle.engine.specs.Limits.{Rest}
use Rattle.engine.proofs.Limits.{rest_more}
use Rattle.engine.proofs.slots.mark_rest.Goals as goal

pub returns-then-limit-a-ne-NO_LIMIT : goal.returns-then-limit-a-ne-NO_LIMIT
returns-then-limit-a-ne-NO_LIMIT c =
    let l = c.loop-a in
    let same : l.a ≡ l.a - 1 + 1 = omega arith in
    (omega arith, omega arith, subst (λ (a : ℕ). Rest a c.args.end c.args.limit.now l.limit) same l.invariant.2)

pub loop-a-preserved : goal.loop-a-preserved
loop-a-preserved c =
    let l = c.loop-a in
    let e : l.a ≡ l.a - 1 + 1 = omega arith in
    let h : l.a - 1 < length l.limit = omega (arith, l.invariant.2.long, c.requires.2) in
    (omega arith, omega arith, rest_more (l.a - 1) l.a c.args.end c.args.limit.now l.limit e l.invariant.1 h c.if-limit-a-ne-NO_LIMIT.false l.invariant.2)

pub returns : goal.returns
returns c =
    let l = c.loop-a in
    let same : l.a ≡ c.args.from = omega arith in
    (omega arith, omega arith, subst (λ (a : ℕ). Rest a c.args.end c.args.limit.now l.limit) same l.invariant.2)
