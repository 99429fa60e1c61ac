-- A slot in its turn: its weight, its place, and what that weighs. Assumes nothing.
use Rattle.std.proofs.Common.{◌≡◌, ◌≤◌, get_or, arith}
use Rattle.balance.specs.Slots.{taken_weight, put_weight}
use Rattle.balance.proofs.Weights.{put_most, taken_most, put_turn, taken_turn}
use Rattle.balance.proofs.weighing.slots_even.Goals as goal

pub overflow_add-put : goal.overflow_add-put
overflow_add-put c =
    let a = c.loop-a.a in
    let w = get_or c.args.weights.now (get_or c.args.net.now.place.now a 0) 0 in
    let m = put_most (get_or c.args.net.now.kind.now a 0) (get_or c.args.net.now.weight.now a 0) w
    (c.requires.1 a c.loop-a.invariant.0 c.loop-a-test.true) (c.requires.3 (get_or c.args.net.now.place.now a 0)) in
    omega (arith, m, c.put_weight-put.ensures)

pub overflow_add-taken : goal.overflow_add-taken
overflow_add-taken c =
    let a = c.loop-a.a in
    let w = get_or c.args.weights.now (get_or c.args.net.now.place.now a 0) 0 in
    let m = taken_most (get_or c.args.net.now.kind.now a 0) (get_or c.args.net.now.weight.now a 0) w
    (c.requires.1 a c.loop-a.invariant.0 c.loop-a-test.true) (c.requires.3 (get_or c.args.net.now.place.now a 0)) in
    omega (arith, m, c.taken_weight-taken.ensures)

pub loop-a-preserved : goal.loop-a-preserved
loop-a-preserved c =
    let s = c.args in
    let a = c.loop-a.a in
    let k = get_or s.net.now.kind.now a 0 in
    let v = get_or s.net.now.weight.now a 0 in
    let w = get_or s.weights.now (get_or s.net.now.place.now a 0) 0 in
    let light : v ≤ 1_000_000 = c.requires.1 a c.loop-a.invariant.0 c.loop-a-test.true in
    let small : w ≤ 1_000 = c.requires.3 (get_or s.net.now.place.now a 0) in
    let m = put_turn s.weights.now s.net.now.kind.now s.net.now.place.now s.net.now.weight.now a s.end c.loop-a-test.true in
    let n = taken_turn s.weights.now s.net.now.kind.now s.net.now.place.now s.net.now.weight.now a s.end c.loop-a-test.true in
    let pe : c.put_weight-put.result ≡ put_weight k v w = c.put_weight-put.ensures in
    let te : c.taken_weight-taken.result ≡ taken_weight k v w = c.taken_weight-taken.ensures in (
      omega arith,
      omega arith,
      omega arith,
      omega (arith, put_most k v w light small),
      omega (arith, taken_most k v w light small),
    )
