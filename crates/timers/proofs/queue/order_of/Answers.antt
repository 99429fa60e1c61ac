-- What is left, read from the last time passed, is in order exactly where the whole is.
use native.Mathlib.Omega.{arith}
use mathlib.Core.Path.{sym, ap, ◌∙◌}
use mathlib.Core.Bool.{Bool}
use Prim.{tt}
use lib.Ieee.{nan_bits, of_bits}
use Rattle.net.specs.Net.{pick}
use Rattle.timers.specs.Turning.{held}
use Rattle.timers.proofs.Queues.{rises_start, rises_step, rises_stop}
use Rattle.timers.proofs.queue.order_of.Goals as goal

pub float_from_bits-last : goal.float_from_bits-last
unfolding nan_bits
float_from_bits-last c = tt

pub loop-i-init : goal.loop-i-init
unfolding of_bits
loop-i-init c = λ owners. rises_start (held c.args.ats.now owners) c.args.n

pub loop-i-preserved : goal.loop-i-preserved
loop-i-preserved c =
    let l = c.loop-i in
    λ owners. l.invariant owners ∙ rises_step (held c.args.ats.now owners) c.args.n l.i l.last c.requires (omega arith) c.if-last-at.true

pub returns-else-last-at : goal.returns-else-last-at
returns-else-last-at c =
    let l = c.loop-i in
    λ owners.
    let stop = l.invariant owners ∙ rises_stop (held c.args.ats.now owners) c.args.n l.i l.last c.requires (omega arith) c.if-last-at.false in
    sym (ap (λ (b : Bool). pick b 1 0) stop)
