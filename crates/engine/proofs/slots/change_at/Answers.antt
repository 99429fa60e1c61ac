-- The sums so far with what the slots from a on move are the whole. They fit, since a slot moves at most 1,000,000. Assumes nothing.
use lib.ListN.{get_or}
use mathlib.Core.List.{List}
use Rattle.net.specs.Net.{moved, taken_by}
use Rattle.net.specs.Readable.{Slot, slots, takes_of, arcs_of, is_put}
use Rattle.engine.specs.Arcs.{put_slot, taken_slot}
use Rattle.engine.proofs.Arcs.{slots_end, moved_turn, taken_turn, put_most, taken_most}
use native.Mathlib.Omega.{arith}
use mathlib.Core.Path.{◌≡◌, ap}
use Prim.Native.Nat.{◌-◌, ◌<◌}
use Rattle.engine.proofs.slots.change_at.Goals as goal

pub overflow_add-put : goal.overflow_add-put
overflow_add-put c =
    let l = c in
    let s = l.args in
    let a = l.loop-a.a in
    let k = get_or s.net.now.kind.now a 0 in
    let q = get_or s.net.now.place.now a 0 in
    let w = get_or s.net.now.weight.now a 0 in
    let t : a < s.end = c.loop-a-test.true in
    omega (arith, put_most k q w s.p (l.requires.1 a l.loop-a.invariant.0 t), c.put_slot-put.ensures)

pub overflow_add-taken : goal.overflow_add-taken
overflow_add-taken c =
    let l = c in
    let s = l.args in
    let a = l.loop-a.a in
    let k = get_or s.net.now.kind.now a 0 in
    let q = get_or s.net.now.place.now a 0 in
    let w = get_or s.net.now.weight.now a 0 in
    let t : a < s.end = c.loop-a-test.true in
    omega (arith, taken_most k q w s.p (l.requires.1 a l.loop-a.invariant.0 t), c.taken_slot-taken.ensures)

pub loop-a-preserved : goal.loop-a-preserved
loop-a-preserved c =
    let l = c in
    let s = l.args in
    let a = l.loop-a.a in
    let k = get_or s.net.now.kind.now a 0 in
    let q = get_or s.net.now.place.now a 0 in
    let w = get_or s.net.now.weight.now a 0 in
    let t : a < s.end = c.loop-a-test.true in
    let m = moved_turn s.net.now.kind.now s.net.now.place.now s.net.now.weight.now a s.end s.p t in
    let n = taken_turn s.net.now.kind.now s.net.now.place.now s.net.now.weight.now a s.end s.p t in
    let pe : c.put_slot-put.result ≡ put_slot k q w s.p = c.put_slot-put.ensures in
    let te : c.taken_slot-taken.result ≡ taken_slot k q w s.p = c.taken_slot-taken.ensures in (
      omega arith,
      omega arith,
      omega arith,
      omega (arith, put_most k q w s.p (l.requires.1 a l.loop-a.invariant.0 t)),
      omega (arith, taken_most k q w s.p (l.requires.1 a l.loop-a.invariant.0 t)),
    )

pub returns : goal.returns
returns c =
    let l = c in
    let s = l.args in
    let e = slots_end s.net.now.kind.now s.net.now.place.now s.net.now.weight.now l.loop-a.a s.end c.loop-a-test.false in
    let m : moved (arcs_of is_put (slots s.net.now.kind.now s.net.now.place.now s.net.now.weight.now l.loop-a.a (s.end - l.loop-a.a))) s.p ≡ 0 = ap (λ (ls : List Slot). moved (arcs_of is_put ls) s.p) e in
    let n : taken_by (takes_of (slots s.net.now.kind.now s.net.now.place.now s.net.now.weight.now l.loop-a.a (s.end - l.loop-a.a))) s.p ≡ 0 = ap (λ (ls : List Slot). taken_by (takes_of ls) s.p) e in
    (omega arith, omega arith)
