-- The first i slots hold the first i timers of the queue; whether they are in order is looked at afterwards.
use native.Mathlib.Omega.{arith}
use mathlib.Core.Path.{◌≡◌, refl, sym, ap, ◌∙◌}
use Prim.Native.Nat.{ℕ, min}
use mathlib.Core.List.{List}
use lib.Dec.{eqb}
use Rattle.net.specs.Net.{pick}
use Rattle.rules.specs.Timers.{Timer}
use Rattle.timers.specs.InOrder.{in_order}
use Rattle.timers.specs.Turning.{from, held}
use Rattle.timers.proofs.Queues.{loaded_all, one_if_lem}
use Rattle.timers.proofs.queue.hand_in.Goals as goal

pub returns : goal.returns
returns c =
    let l = c.loop-i in
    let n = c.capped-n in
    let f = held l.ats l.owners in
    let list = loaded_all c.args.queue l.i n.result (min n.result 256) _ f (omega arith) (omega arith) n.ensures l.invariant in
    let all : min n.result 256 ≡ n.result = omega (arith, n.ensures) in
    let ordered = c.order_of.ensures l.owners ∙ ap (λ (k : ℕ). pick (in_order (from f 0 k)) 1 0) (sym all) in
    record {
      list = list;
      start = refl;
      ordered = ordered ∙ ap (λ (xs : List Timer). pick (in_order xs) 1 0) list;
      sound = λ t. one_if_lem _ (ap (λ (k : ℕ). eqb k 1) (sym ordered) ∙ t);
      beyond = λ k h u. l.invariant.beyond k (omega arith);
    }
