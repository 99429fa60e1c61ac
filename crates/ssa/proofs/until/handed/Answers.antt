-- A list that is handed out is the queue's (timers, HandedOut), which has at most 256 timers: so it is what the state says. Assumes nothing.
use native.Mathlib.Omega.{arith}
use mathlib.Core.Path.{◌≡◌, refl, ap, ◌∙◌}
use mathlib.Core.List.{List}
use Prim.Native.Nat.{ℕ, ◌+◌, min}
use lib.Ieee.{Float}
use Rattle.rng.specs.State.{words}
use Rattle.rules.specs.Step.{state}
use Rattle.engine.specs.Engine.{marking}
use Rattle.timers.specs.declared.Ring.{Ring}
use Rattle.timers.specs.declared.queue.Queue.{Queue}
use Rattle.timers.specs.Turning.{from, timers_of}
use Rattle.timers.specs.Queues.{waiting, HandedOut}
use Rattle.carried.specs.Timers.{timers_in}
use Rattle.ssa.proofs.until.handed.Goals as goal

queued : {ats : List Float} {owners : List ℕ} {r : Ring} {q : Queue} → HandedOut ats owners r q
    → timers_in q.ats q.whos q.takens q.len ≡ timers_of ats owners r
queued {q = q} h = let e : q.len ≡ min q.len 256 = omega (arith, h.long) in ap (from (waiting q) 0) e ∙ h.list

pub returns : goal.returns
returns c =
    let a = c.args in (
      refl,
      c.settled.ensures,
      λ places i. record {
        now = state a.w.clock (marking places a.counts.now) (queued c.hand_out.ensures i) (words a.w.rng.s);
        steps = a.steps + a.w.steps;
        limit = a.limit;
        peak = a.w.peak;
        rounded = a.rounded + a.w.rounded;
        recorded = a.w.next;
      },
    )
