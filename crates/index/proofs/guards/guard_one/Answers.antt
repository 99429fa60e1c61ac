-- One slot more (Guarding). Assumes nothing.
use native.Mathlib.Omega.{arith}
use Rattle.net.specs.Record.{net_of}
use Rattle.index.specs.Guarding.{Used}
use Rattle.index.proofs.Placed.{slots_fit, places_fit}
use Rattle.index.proofs.Guarding.{guarding_more, guarding_next}
use Rattle.index.proofs.guards.guard_one.Goals as goal

pub loop-a-init : goal.loop-a-init
loop-a-init c = (c.requires.3, slots_fit (net_of c.args.net.now) c.requires.1 c.args.j c.requires.0)

pub guard_slot-requires : goal.guard_slot-requires
guard_slot-requires c = (places_fit (net_of c.args.net.now) c.requires.1 c.loop-a.a, omega (arith, c.requires.1.transitions), c.loop-a.invariant.0.long)

pub loop-a-preserved : goal.loop-a-preserved
loop-a-preserved c =
    let n = net_of c.args.net.now in
    let l = c.loop-a in
    let u : Used n c.args.j l.a = record { real = c.requires.0; from = l.auto.a; to = c.loop-a-test.true } in
    (guarding_more n c.requires.1 l.guards _ c.args.limit.now c.args.j l.a l.invariant.0 u c.requires.2 c.guard_slot.ensures, l.invariant.1)

pub returns : goal.returns
returns c = guarding_next (net_of c.args.net.now) c.requires.1 c.loop-a.guards c.args.j c.loop-a.a c.loop-a.invariant.0 c.loop-a-test.false
