-- The rates before j are filled. Assumes nothing.
use native.Mathlib.Omega.{arith}
use mathlib.Core.Path.{sym, ap, ◌∙◌}
use lib.Ieee.{nan}
use Rattle.net.specs.Net.{rate_of}
use Rattle.net.specs.Record.{net_of}
use Rattle.engine.proofs.Sides.{transition_at}
use Rattle.kept.proofs.Filling.{filling_none, filling_more}
use Rattle.kept.proofs.tables.rates_of.Invariants.{Rate}
use Rattle.kept.proofs.tables.rates_of.Goals as goal

pub loop-j-init : goal.loop-j-init
loop-j-init c = filling_none nan (Rate (net_of c.args.net.now)) c.args.rates.now c.requires.1

pub loop-j-preserved : goal.loop-j-preserved
loop-j-preserved c =
    let n = net_of c.args.net.now in
    filling_more nan (Rate n) c.loop-j.rates c.loop-j.j c.loop-j.invariant (omega arith) c.rate_of.result
    (c.rate_of.ensures ∙ ap rate_of (sym (transition_at n c.loop-j.j c.loop-j-test.true)))

pub returns : goal.returns
returns c = (λ i h. c.loop-j.invariant.each i (omega arith), c.loop-j.invariant.long)
