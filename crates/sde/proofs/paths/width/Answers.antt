-- The instants of the definition, and its two quotients. Assumes nothing.
use Prim.Native.Nat.{◌-◌}
use lib.Ieee.{binary64, sub, mul, div}
use Rattle.rules.specs.Propensity.{float}
use Rattle.sde.proofs.Members.{twenty, nought}
use Rattle.sde.proofs.paths.width.Goals as goal

pub returns : goal.returns
returns c =
    let s = float (c.args.samples - 1) in
    let w = c.interval-w.ensures in
    λ i. div binary64 (div binary64 (sub binary64 (mul binary64 s (w i)) (mul binary64 (nought i) (w i))) s) (twenty i)
