-- The slots of a transition of a sound net name its places, and weigh little; its rate, which is tidy, and the factors up to its kinetic end.
-- Assumes nothing.
use Rattle.std.proofs.Common.{get_or, take, arith}
use Rattle.net.specs.Record.{net_of}
use Rattle.gates.proofs.Arcs.{light}
use Rattle.sde.proofs.Factors.{inside}
use Rattle.sde.proofs.Ends.{propensity_within}
use Rattle.sde.proofs.propensity.propensity.Goals as goal

pub product-requires : goal.product-requires
product-requires c =
    let r = c.args.run.now in
    let n = net_of r.net in
    let j = c.args.j in
    let s = r.ready.sound in
    let e = r.ready.prepared.of_ends j c.requires in (
      omega (arith, e.high, s.arcs j c.requires, s.transitions, c.requires),
      s.places,
      (λ a l h. light n s j c.requires a l (omega (arith, e.high))),
      (λ a l h. inside n s j c.requires a l (omega (arith, e.high))),
    )

pub returns : goal.returns
returns c =
    let r = c.args.run.now in
    let j = c.args.j in
    propensity_within (net_of r.net) (take r.net.places c.args.x.now) j (get_or r.ends.now j 0) (r.ready.prepared.of_ends j c.requires) (r.ready.prepared.of_rates j c.requires)
    c.product.ensures
