-- The sums so far with what the slots from a on weigh are the whole. They fit, since a slot weighs at most 10^9. Assumes nothing.
use Rattle.std.proofs.Common.{◌≡◌, ◌+◌, ◌-◌, ◌*◌, ◌≤◌}
use Rattle.net.specs.Readable.{slots, takes_of, arcs_of, is_put}
use Rattle.rules.specs.Balance.{takes_weigh, puts_weigh}
use Rattle.balance.proofs.weighing.slots_even.Given as goal

abbrev pub invariant-loop-a : goal.invariant-loop-a
invariant-loop-a l =
    (l.from ≤ l.a)
    × (l.put + puts_weigh l.weights (arcs_of is_put (slots l.net.kind.now l.net.place.now l.net.weight.now l.a (l.end - l.a))) ≡ puts_weigh l.weights (arcs_of is_put (slots l.net.kind.now l.net.place.now l.net.weight.now l.from (l.end - l.from))))
    × (l.taken + takes_weigh l.weights (takes_of (slots l.net.kind.now l.net.place.now l.net.weight.now l.a (l.end - l.a))) ≡ takes_weigh l.weights (takes_of (slots l.net.kind.now l.net.place.now l.net.weight.now l.from (l.end - l.from))))
    × (l.put ≤ 1_000_000_000 * l.a)
    × (l.taken ≤ 1_000_000_000 * l.a)
