-- One place more (Beginning). Assumes nothing.
use native.Mathlib.Omega.{arith}
use Rattle.index.proofs.Beginning.{beginning_none, beginning_more, beginning_all}
use Rattle.index.proofs.guards.begun.Goals as goal

pub loop-p-init : goal.loop-p-init
loop-p-init c = beginning_none c.args.words.now

pub loop-p-preserved : goal.loop-p-preserved
loop-p-preserved c = beginning_more c.args.words.now c.loop-p.guards c.loop-p.p 0xFFFF_FFFF_FFFF_FFFF c.loop-p.invariant (omega (arith, c.told-words))

pub returns : goal.returns
returns c = beginning_all c.args.words.now c.loop-p.guards c.loop-p.p c.loop-p.invariant (omega (arith, c.told-words))
