-- The list from the next place on is the others; an empty list stays.
use Rattle.timers.proofs.Rings.{removed_one}
use Rattle.timers.proofs.remove_first.Goals as goal

pub returns : goal.returns
returns c =
    let n = c.count-n in
    removed_one c.args.ring n.result c.slot.result n.ensures c.if-n-eq0.false c.slot.ensures
