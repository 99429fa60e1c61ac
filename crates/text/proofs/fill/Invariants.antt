-- `fill` meets its contract. The invariant: the k digits still to be written, placed in front of those that stand, are all of them placed.
use mathlib.Core.Path.{◌≡◌}
use lib.ListN.{length}
use Rattle.text.specs.Numbers.{low_digits}
use Rattle.text.specs.Buffer.{placed}
use Rattle.text.proofs.fill.Given as goal

abbrev pub invariant-loop-k : goal.invariant-loop-k
invariant-loop-k l =
    (placed l.out l.at (low_digits l.base l.k l.rest) ≡ placed l.initial.out l.at (low_digits l.base l.count l.n)) × (length l.out ≡ length l.initial.out)
