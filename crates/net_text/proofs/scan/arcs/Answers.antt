-- One arc more, or none (Walk).
use Rattle.std.proofs.Common.{arith}
use Rattle.net_text.proofs.Walk.{walk_none, walk_less, walk_more, walk_end}
use Rattle.net_text.proofs.scan.arcs.Goals as goal

pub loop-a-init : goal.loop-a-init
loop-a-init c =
    walk_none c.args.line.now c.args.base c.args.net.now c.requires.1

pub overflow_add-count : goal.overflow_add-count
overflow_add-count c =
    let less = walk_less c.args.line.now c.args.base c.args.net.now c.loop-a.net c.loop-a.count c.loop-a.strange c.loop-a.left.now c.loop-a.invariant
    c.in-Some.a c.in-Some.rest.now c.in-Some.ensures in
    let few = c.loop-a.invariant.few in
    omega (arith, less, few)

pub loop-a-smaller : goal.loop-a-smaller
loop-a-smaller c =
    walk_less c.args.line.now c.args.base c.args.net.now c.loop-a.net c.loop-a.count c.loop-a.strange c.loop-a.left.now c.loop-a.invariant
    c.in-Some.a c.in-Some.rest.now c.in-Some.ensures

pub loop-a-preserved : goal.loop-a-preserved
loop-a-preserved c =
    walk_more c.args.line.now c.args.base c.args.net.now c.loop-a.net c.loop-a.count c.loop-a.strange c.loop-a.left.now c.loop-a.invariant
    c.in-Some.a c.in-Some.rest.now c.in-Some.ensures c.requires.0 c.store.new.net c.store.ensures

pub returns : goal.returns
returns c =
    walk_end c.args.line.now c.args.base c.args.net.now c.loop-a.net c.loop-a.count c.loop-a.strange c.loop-a.left.now c.loop-a.invariant
    c.in_default.ensures
