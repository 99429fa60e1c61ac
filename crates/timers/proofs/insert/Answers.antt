-- The place is the one that the definition finds, and the room made there is filled with the timer.
use native.Mathlib.Omega.{arith}
use mathlib.Core.Path.{refl, sym}
use Prim.Native.Nat.{◌+◌, ◌<◌, min}
use Rattle.timers.specs.Turning.{timer_of, held, running, says_ordered}
use Rattle.timers.proofs.Places.{filled}
use Rattle.timers.proofs.Rings.{inserted, refused, taken}
use Rattle.timers.proofs.insert.Goals as goal

pub returns-then-capped-n : goal.returns-then-capped-n
returns-then-capped-n c =
    refused c.args.room (running c.args.ring) (timer_of c.args.x) c.args.ats.now c.args.owners.now c.args.ring refl (omega arith)

pub returns : goal.returns
returns c =
    let n = c.count-n in
    let p = c.open_place-i in
    let r = c.args.ring in
    let x = timer_of c.args.x in
    let few : n.result < min c.args.room 256 = omega (arith, c.if-capped-n.false, c.capped.ensures) in
    let put =
    filled r.start (r.start + p.result) (r.start + n.result) (held c.args.ats.now c.args.owners.now) _ _ (omega arith) p.ensures.place.within
    (omega arith) p.ensures.moved c.slot.ensures c.write.ensures in
    taken c.args.room n.result x c.args.ats.now c.args.owners.now r _ _ _ (sym n.ensures) few refl c.still_ordered.ensures
    (λ k l u. put.beyond k (omega arith) u)
    (inserted (says_ordered r) r.start n.result p.result (running r) (min (n.result + 1) 256) x c.args.ats.now c.args.owners.now _
    (sym n.ensures) (omega arith) p.ensures.place put)
