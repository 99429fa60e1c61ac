-- Room for timers: where it is at most 256 the list's own limit says no more than the rules' does, a timer that was taken fits, and a removal leaves no more.
use Prim.Native.Nat.{ℕ, ◌≤◌, min}
use mathlib.Core.Path.{◌≡◌, sym, ap}
use mathlib.Core.Bool.{Bool, true, false}
use mathlib.Core.List.{List, [], ◌∷◌}
use native.Mathlib.Omega.{arith}
use borrow.Author.Tests.{ltb-true}
use lib.Dec.{ltb}
use lib.ListN.{length}
use lib.Ieee.{Float}
use Rattle.net.specs.Net.{pick}
use Rattle.rules.specs.Timers.{Timer, insert, others}
use Rattle.rules.proofs.Detours.{insert_length}
use Rattle.timers.specs.declared.Ring.{Ring}
use Rattle.timers.specs.Turning.{running, timers_of, has_room}
use Rattle.timers.proofs.Rings.{length_timers}
use Rattle.playing.specs.Stepping.{Roomy}

pub room_for : {room : ℕ} → room ≤ 256 → (q : List Timer) → has_room room q ≡ ltb (length q) room
room_for {room} h q = let e : min room 256 ≡ room = omega arith in ap (ltb (length q)) e

pub one_more_fits : {room : ℕ} (x : Timer) (ats ats' : List Float) (owners owners' : List ℕ) {r r' : Ring} → Roomy room r
    → timers_of ats' owners' r' ≡ pick (has_room room (timers_of ats owners r)) (insert x (timers_of ats owners r)) (timers_of ats owners r) → Roomy room r'
one_more_fits {room} x ats ats' owners owners' {r} {r'} h list =
    let few : length (timers_of ats' owners' r') ≤ room = rw list (go (has_room room q) (room_for h.most q)) in
    record { most = h.most; few = omega (arith, few, length_timers ats' owners' r') }
  where
    q : List Timer
    q = timers_of ats owners r

    go : (b : Bool) → b ≡ ltb (length q) room → length (pick b (insert x q) q) ≤ room
    go true e = omega (arith, insert_length x q, ltb-true (length q) room (sym e))
    go false e = omega (arith, length_timers ats owners r, h.few)

others_fewer : (q : List Timer) → length (others q) ≤ length q
others_fewer [] = omega arith
others_fewer (x ∷ q) = omega arith

pub one_fewer : (ats : List Float) (owners : List ℕ) (r r' : Ring) → timers_of ats owners r' ≡ others (timers_of ats owners r) → running r' ≤ running r
one_fewer ats owners r r' list =
    omega (arith, others_fewer (timers_of ats owners r), ap length list, length_timers ats owners r, length_timers ats owners r')

pub fits_still : {room : ℕ} {r r' : Ring} → Roomy room r → running r' ≤ running r → Roomy room r'
fits_still h l = record { most = h.most; few = omega (arith, h.few) }
