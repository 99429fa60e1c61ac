-- What the slots before a come to, with those that are left, is the whole (Valuing). Assumes nothing.
use native.Mathlib.Omega.{arith}
use mathlib.Core.Path.{◌≡◌, ◌∙◌}
use Prim.Native.Nat.{◌+◌, ◌*◌, ◌<◌}
use lib.ListN.{get_or}
use Rattle.net.specs.Net.{amount}
use Rattle.net.specs.Record.{net_of}
use Rattle.engine.specs.Limits.{at_least}
use Rattle.engine.proofs.Factors.{times_limit}
use Rattle.kept.proofs.Valuing.{kinetic_says, valuing_none, valuing_more, valuing_all}
use Rattle.kept.proofs.values.walked.Goals as goal
use Rattle.kept.proofs.values.walked.Goals.{In-loop-a}

-- the slot is one of transition j
inside : (c : In-loop-a) → c.loop-a.a < 16 * c.args.j + get_or c.args.net.now.arcs.now c.args.j 0
inside c = omega (arith, c.loop-a-test.true, c.requires.5)

in_table : (c : In-loop-a) → c.loop-a.a < 1024
in_table c = omega (arith, inside c, c.requires.0, c.requires.1.transitions, c.requires.1.arcs c.args.j)

-- the limit of a kinetic take
limit_is : (c : In-loop-a) → get_or c.args.net.now.kind.now c.loop-a.a 0 ≡ 0
    → get_or c.args.tables.now.limit c.loop-a.a 0 ≡ at_least (amount (get_or c.args.net.now.weight.now c.loop-a.a 0))
limit_is c k =
    let a = c.loop-a.a in
    kinetic_says (net_of c.args.net.now) c.requires.1 a k c.args.j (get_or c.args.tables.now.limit a 0) c.loop-a.invariant.low (inside c)
    (c.requires.2 a (omega (arith, inside c, c.requires.0, c.requires.1.arcs c.args.j)))

pub loop-a-init : goal.loop-a-init
loop-a-init c =
    valuing_none (net_of c.args.net.now) c.args.counts.now c.args.j c.requires.0 _ (c.requires.4 c.args.j c.requires.0)

pub loop-a-preserved : goal.loop-a-preserved
loop-a-preserved c =
    let n = net_of c.args.net.now in
    let a = c.loop-a.a in
    valuing_more n c.args.counts.now c.args.j c.requires.1 c.loop-a.x c.times-x.result a c.loop-a.invariant (inside (goal.at.loop-a-preserved c).In-loop-a)
    (c.times-x.ensures
    ∙ times_limit c.loop-a.x (get_or n.kind a 0) (get_or n.weight a 0) (get_or c.args.tables.now.limit a 0)
    (get_or c.args.counts.now (get_or n.place a 0) 0) (c.requires.1.weight a) (limit_is (goal.at.loop-a-preserved c).In-loop-a))

pub returns : goal.returns
returns c =
    valuing_all (net_of c.args.net.now) c.args.counts.now c.args.j c.loop-a.x c.loop-a.a c.loop-a.invariant
    (λ b l. c.requires.6 b (omega (arith, c.loop-a-test.false)))
