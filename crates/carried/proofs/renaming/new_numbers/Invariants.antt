-- The numbers before number i are in their places. A store at i leaves them, and puts the next one in its place. Assumes nothing.
use Rattle.std.proofs.Common.{◌≡◌, ℕ, ◌-◌, ◌<◌, length, get_or}
use Rattle.carried.proofs.renaming.new_numbers.Given as goal

abbrev pub invariant-loop-i : goal.invariant-loop-i
invariant-loop-i l =
    (length l.numbers ≡ 256) × ((k : ℕ) → k < l.i → get_or l.numbers k 0 ≡ get_or l.names (get_or l.whos k 0) 0)
