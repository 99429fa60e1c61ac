-- The limits of the slots, some of them marked, are what the table says (Limits, says-limits). Assumes nothing.
use Rattle.net.specs.Record.{net_of}
use Rattle.engine.proofs.Limits.{says_limits}
use Rattle.engine.proofs.slots.fill_limits.Goals as goal

pub returns : goal.returns
returns c =
    let r = c in
    let s = r.args in
    λ a h. says_limits (net_of s.net.now) a _ r.requires.0 h c.fill_slots.ensures.1 (c.mark_rests.ensures a)
