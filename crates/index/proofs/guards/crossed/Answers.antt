-- By the two tests. Assumes nothing.
use native.Mathlib.Omega.{arith}
use Prim.Native.Nat.{◌^◌}
use borrow.Author.Tests.{le-leb}
use Rattle.index.proofs.guards.crossed.Goals as goal

pub returns-then-x-lt2 : goal.returns-then-x-lt2
returns-then-x-lt2 c = λ h. absurd (omega (arith, c.if-x-lt2.true, h.0))

pub returns : goal.returns
returns c = λ h. le-leb c.args.x (2 ^ 53) h.1
