-- The first i places of the queue hold the first i timers.
use native.Mathlib.Omega.{arith}
use Prim.Native.Nat.{min}
use Rattle.timers.specs.Turning.{held, running}
use Rattle.timers.proofs.Queues.{queued_none, queued_all}
use Rattle.timers.proofs.queue.hand_out.Goals as goal

pub loop-i-init : goal.loop-i-init
loop-i-init c = queued_none _ _

pub returns : goal.returns
returns c =
    let l = c.loop-i in
    let n = c.capped-n in
    let a = c.args in
    record {
      list = queued_all (held a.ats.now a.owners.now) a.ring.start l.i (running a.ring) (min n.result 256)
          l.times l.whos l.takens (omega arith) (omega arith) (omega arith) l.invariant;
      long = n.ensures;
      beyond = λ k h u. l.invariant.beyond k (omega arith) u;
    }
