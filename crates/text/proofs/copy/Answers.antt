-- `copy` meets its contract. The invariant: the first i bytes are placed, which is `lib.Seq`'s `paste`.
use native.Mathlib.Omega.{arith}
use mathlib.Core.Path.{◌≡◌, refl}
use native.Mathlib.Numerals.{add-one}
use lib.ListN.{length, length-set}
use lib.Seq.{paste-zero, paste-suc, take-length}
use Rattle.text.proofs.copy.Goals as goal

pub loop-i-init : goal.loop-i-init
loop-i-init c = (paste-zero c.args.out.now c.args.at c.args.bytes.now, omega arith, refl)

pub loop-i-preserved : goal.loop-i-preserved
loop-i-preserved c =
    let out₀ = c.args.out.now in
    let at = c.args.at in
    let bytes = c.args.bytes.now in
    let i = c.loop-i.i in (
      rw (c.loop-i.invariant.0, add-one i) (paste-suc out₀ at bytes i 0 (omega arith) (omega arith)),
      omega arith,
      simp length-set (omega arith),
    )

pub returns : goal.returns
returns c =
    let bytes = c.args.bytes.now in
    let all : c.loop-i.i ≡ length bytes = omega arith in
    rw (c.loop-i.invariant.0, all, take-length bytes)
