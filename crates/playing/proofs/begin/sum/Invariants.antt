-- The loop adds the counts of the places below p; each is at most 2^53, so 32 of them are at most 2^58.
use lib.ListN.{take}
use Rattle.rules.specs.Moments.{sum_of}
use mathlib.Core.Path.{◌≡◌}
use Prim.Native.Nat.{◌*◌, ◌^◌, ◌≤◌}
use Rattle.playing.proofs.begin.sum.Given as goal

abbrev pub invariant-loop-p : goal.invariant-loop-p
invariant-loop-p l = (l.total ≡ sum_of (take l.p l.counts)) × (l.total ≤ 2 ^ 53 * l.p)
