-- What one transition lists, added to what those before it list (Filling). Assumes nothing.
use native.Mathlib.Omega.{arith}
use Rattle.net.specs.Record.{net_of}
use Rattle.index.proofs.Placed.{slots_fit, places_fit}
use Rattle.index.proofs.Filling.{filled_none, filled_more, filled_all}
use Rattle.index.proofs.listed.listed_words.Goals as goal

pub loop-j-init : goal.loop-j-init
loop-j-init c = (filled_none (net_of c.args.net.now), c.requires.transitions)

pub list_one-requires : goal.list_one-requires
list_one-requires c =
    let n = net_of c.args.net.now in
    (omega (arith, c.requires.transitions), slots_fit n c.requires c.loop-j.j c.loop-j-test.true, places_fit n c.requires, c.requires.weight, c.loop-j.invariant.0.long)

pub loop-j-preserved : goal.loop-j-preserved
loop-j-preserved c = (filled_more (net_of c.args.net.now) c.loop-j.words _ c.loop-j.j c.loop-j.invariant.0 c.loop-j-test.true c.list_one.ensures, c.loop-j.invariant.1)

pub returns : goal.returns
returns c = filled_all (net_of c.args.net.now) c.requires.place c.loop-j.words c.loop-j.j c.loop-j.invariant.0 c.loop-j-test.false
