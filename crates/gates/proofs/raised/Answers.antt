-- The first that raises it answers, since none before it does. Assumes nothing.
use Rattle.std.proofs.Common.{arith}
use Rattle.net.specs.Record.{net_of}
use Rattle.gates.specs.Gated.{raises}
use Rattle.engine.proofs.Lists.{any_whole, any_stop, any_go, any_end}
use Rattle.gates.proofs.Arcs.{light, raises_yes, raises_no}
use Rattle.gates.proofs.raised.Goals as goal

pub loop-j-init : goal.loop-j-init
loop-j-init c = any_whole (raises c.args.p) (net_of c.args.net.now) c.args.net.now.transitions

pub change_at-c-requires : goal.change_at-c-requires
change_at-c-requires c =
    let j = c.loop-j.j in
    let t = c.loop-j-test.true in
    (omega (arith, c.requires.arcs j t, c.requires.transitions), light (net_of c.args.net.now) c.requires j t)

pub returns-then-c : goal.returns-then-c
returns-then-c c =
    let n = net_of c.args.net.now in
    let p = c.args.p in
    any_stop (raises p) n c.loop-j.j n.transitions c.loop-j.invariant c.loop-j-test.true (raises_yes n c.loop-j.j p c.change_at-c.ensures.0 c.change_at-c.ensures.1 c.if-c.true)

pub loop-j-preserved : goal.loop-j-preserved
loop-j-preserved c =
    let n = net_of c.args.net.now in
    let p = c.args.p in
    any_go (raises p) n c.loop-j.j n.transitions c.loop-j.invariant c.loop-j-test.true (raises_no n c.loop-j.j p c.change_at-c.ensures.0 c.change_at-c.ensures.1 c.if-c.false)

pub returns : goal.returns
returns c = any_end (raises c.args.p) (net_of c.args.net.now) c.loop-j.j c.args.net.now.transitions c.loop-j.invariant c.loop-j-test.false
