-- Transition j adds its arcs of the sort, and those behind it are left. Assumes nothing.
use Rattle.std.proofs.Common.{arith}
use Rattle.net.specs.Record.{net_of}
use Rattle.gates.specs.Slots.{sort_of}
use Rattle.gates.proofs.Counted.{count_span, all_most, from_whole, from_turn, from_end}
use Rattle.gates.proofs.count.Goals as goal

pub loop-j-init : goal.loop-j-init
loop-j-init c = from_whole (sort_of c.args.gate) (net_of c.args.net.now) c.args.net.now.transitions

pub overflow_add-n : goal.overflow_add-n
overflow_add-n c =
    let n = net_of c.args.net.now in
    let f = sort_of c.args.gate in
    let t = from_turn f n c.loop-j.j n.transitions c.loop-j-test.true in
    omega (arith, c.count_slots-n.ensures, count_span f n c.loop-j.j, all_most f n c.requires)

pub loop-j-preserved : goal.loop-j-preserved
loop-j-preserved c =
    let n = net_of c.args.net.now in
    let f = sort_of c.args.gate in
    let t = from_turn f n c.loop-j.j n.transitions c.loop-j-test.true in
    omega (arith, c.count_slots-n.ensures, count_span f n c.loop-j.j)

pub returns : goal.returns
returns c =
    let n = net_of c.args.net.now in
    let t = from_end (sort_of c.args.gate) n c.loop-j.j n.transitions c.loop-j-test.false in
    omega arith
