-- One transition more (Guarding). Assumes nothing.
use Rattle.net.specs.Record.{net_of}
use Rattle.index.proofs.Guarding.{guarding_none, guarding_all}
use Rattle.index.proofs.guards.guards_of.Goals as goal

pub loop-j-init : goal.loop-j-init
loop-j-init c = guarding_none (net_of c.args.net.now) c.listed_words-words.result c.begun-guards.result c.begun-guards.ensures c.listed_words-words.ensures

pub returns : goal.returns
returns c = guarding_all (net_of c.args.net.now) c.requires.0 c.loop-j.guards c.loop-j.j c.loop-j.invariant c.loop-j-test.false
