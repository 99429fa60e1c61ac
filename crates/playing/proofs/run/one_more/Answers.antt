-- By the flag. Assumes nothing.
use mathlib.Core.Path.{◌≡◌, sym, ap, ◌∙◌}
use mathlib.Core.Bool.{Bool}
use Prim.Native.Nat.{◌+◌}
use native.Mathlib.Omega.{arith}
use Rattle.net.specs.Net.{pick}
use Rattle.playing.proofs.run.one_more.Goals as goal

pub returns-then-so : goal.returns-then-so
returns-then-so c = sym (ap (λ (b : Bool). c.args.rounded + pick b 1 0) c.if-so.true)

pub returns : goal.returns
returns c =
    let e : c.args.rounded ≡ c.args.rounded + 0 = omega arith in
    e ∙ sym (ap (λ (b : Bool). c.args.rounded + pick b 1 0) c.if-so.false)
