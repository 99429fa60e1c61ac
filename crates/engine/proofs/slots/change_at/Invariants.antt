-- The sums so far with what the slots from a on move are the whole. They fit, since a slot moves at most 1,000,000. Assumes nothing.
use Rattle.net.specs.Net.{moved, taken_by}
use Rattle.net.specs.Readable.{slots, takes_of, arcs_of, is_put}
use mathlib.Core.Path.{◌≡◌}
use Prim.Native.Nat.{◌+◌, ◌-◌, ◌*◌, ◌≤◌}
use Rattle.engine.proofs.slots.change_at.Given as goal

abbrev pub invariant-loop-a : goal.invariant-loop-a
invariant-loop-a l =
    (l.from ≤ l.a)
    × (l.put + moved (arcs_of is_put (slots l.net.kind.now l.net.place.now l.net.weight.now l.a (l.end - l.a))) l.p ≡ moved (arcs_of is_put (slots l.net.kind.now l.net.place.now l.net.weight.now l.from (l.end - l.from))) l.p)
    × (l.taken + taken_by (takes_of (slots l.net.kind.now l.net.place.now l.net.weight.now l.a (l.end - l.a))) l.p ≡ taken_by (takes_of (slots l.net.kind.now l.net.place.now l.net.weight.now l.from (l.end - l.from))) l.p)
    × (l.put ≤ 1_000_000 * l.a)
    × (l.taken ≤ 1_000_000 * l.a)
