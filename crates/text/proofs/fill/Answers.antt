-- `fill` meets its contract. The invariant: the k digits still to be written, placed in front of those that stand, are all of them placed.
use native.Mathlib.Omega.{arith}
use mathlib.Core.Path.{◌≡◌, ◌∙◌}
use Prim.Native.Nat.{◌+◌, ◌-◌, ◌/◌, ◌%◌, ◌<◌}
use lib.ListN.{length, set, length-set}
use Rattle.text.specs.Numbers.{digit, low_digits}
use Rattle.text.specs.Buffer.{placed}
use Rattle.text.proofs.Places.{placed_last}
use Rattle.text.proofs.Digits.{low_length, low_last}
use Rattle.text.proofs.fill.Goals as goal

pub loop-k-preserved : goal.loop-k-preserved
loop-k-preserved c =
    let at = c.args.at in
    let base = c.args.base in
    let out = c.loop-k.out in
    let k = c.loop-k.k in
    let rest = c.loop-k.rest in
    let v = low_digits base (k - 1) (rest / base) in
    let room : at + length v < length out = rw (low_length base (k - 1) (rest / base)) (omega arith) in
    let one : placed (set out (at + (k - 1)) (digit (rest % base))) at v ≡ placed out at (low_digits base k rest) =
    rw (low_last base k rest (omega arith), ← placed_last out at v (digit (rest % base)) room, low_length base (k - 1) (rest / base)) in
    (rw c.digit.ensures (one ∙ c.loop-k.invariant.0), simp length-set (omega arith))
