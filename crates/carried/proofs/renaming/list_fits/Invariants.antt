-- What is left to find from pair i on, by the numbers in the two sets, is what the whole list has (proofs/Listed). Each arm that returns
-- found it in pair i or found none, and a whole turn puts the pair's numbers into the sets. Assumes nothing.
use Rattle.std.proofs.Common.{◌-◌}
use Rattle.carried.proofs.Listed.{Left}
use Rattle.carried.proofs.renaming.list_fits.Given as goal

abbrev pub invariant-loop-i : goal.invariant-loop-i
invariant-loop-i l = Left l.pairs l.old l.new l.olds l.news l.i
