-- `decimal_length` meets its contract. The invariant: the digits counted and those of what is left are the decimal's.
-- That the count fits follows from its sum with what is left, which does not grow.
use mathlib.Core.Path.{◌≡◌}
use Prim.Native.Nat.{◌+◌, ◌/◌, ◌≤◌}
use lib.ListN.{length}
use Rattle.text.specs.Numbers.{decimal_text}
use Rattle.text.proofs.Digits.{count_of}
use Rattle.text.proofs.decimal_length.Given as goal

abbrev pub invariant-loop-rest : goal.invariant-loop-rest
invariant-loop-rest l =
    (l.count + count_of l.rest ≡ length (decimal_text l.n)) × (l.count + l.rest ≤ l.n / 10 + 1)

abbrev pub decreases-loop-rest : goal.decreases-loop-rest
decreases-loop-rest l = l.rest
