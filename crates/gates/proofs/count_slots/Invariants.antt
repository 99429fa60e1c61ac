-- The count so far with that of the slots from a on is the whole. Assumes nothing.
use Rattle.std.proofs.Common.{◌≡◌, ℕ, ◌+◌, ◌-◌}
use Rattle.net.specs.Readable.{slots}
use Rattle.gates.specs.Slots.{sort_of, count_if}
use Rattle.gates.proofs.count_slots.Given as goal

abbrev pub invariant-loop-a : goal.invariant-loop-a
invariant-loop-a l =
    let left = λ (a : ℕ). count_if (sort_of l.gate) (slots l.net.kind.now l.net.place.now l.net.weight.now a (l.end - a)) in
    l.n + left l.a ≡ left l.from
