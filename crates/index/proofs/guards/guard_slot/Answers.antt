-- The four words of the place (Turning). Assumes nothing.
use lib.Dec.{eqb}
use Rattle.index.proofs.Turning.{guarded_of}
use Rattle.index.proofs.guards.guard_slot.Goals as goal

pub returns : goal.returns
returns c =
    let s = c in
    let x = c.threshold-x in
    let on = c.crossed-on.ensures in
    let least = c.lower-least in
    guarded_of s.args.guards.now s.args.p _ _ least.result c.higher-most.result s.requires.0 s.requires.2 (eqb s.args.kind 0) x.result s.args.j
    c.joined-takes.ensures
    c.joined-edges.ensures
    least.ensures.0 (λ h. least.ensures.1 (on h)) c.higher-most.ensures.0 (λ h. c.higher-most.ensures.1 (on h)) x.ensures
