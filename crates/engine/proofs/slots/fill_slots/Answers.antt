-- The table says the limits of the slots below a. Assumes nothing.
use Rattle.net.specs.Record.{net_of}
use Rattle.engine.proofs.Limits.{limits_more}
use lib.ListN.{length-set}
use native.Mathlib.Omega.{arith}
use mathlib.Core.Path.{◌∙◌}
use Rattle.engine.proofs.slots.fill_slots.Goals as goal

pub loop-a-preserved : goal.loop-a-preserved
loop-a-preserved c =
    let l = c.loop-a in
    let i = l.invariant in (
      i.0,
      length-set l.limit l.a c.slot_limit.result ∙ i.1,
      limits_more (net_of c.args.net.now) l.limit l.a c.slot_limit.result (omega arith) c.slot_limit.ensures i.2,
    )
