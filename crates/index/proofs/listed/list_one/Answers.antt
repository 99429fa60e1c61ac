-- What the words say with what the slots from a on list is the whole (Listing). Assumes nothing.
use Rattle.net.specs.Record.{net_of}
use Rattle.index.proofs.Listing.{listing_none, listing_more, listing_all}
use Rattle.index.proofs.listed.list_one.Goals as goal

pub loop-a-init : goal.loop-a-init
loop-a-init c =
    let n = net_of c.args.net.now in
    listing_none n.capacity n.kind n.place n.weight c.args.from c.args.end c.args.j c.args.words.now c.requires.4

pub loop-a-preserved : goal.loop-a-preserved
loop-a-preserved c =
    let n = net_of c.args.net.now in
    let s = c.args in
    let l = c.loop-a in
    listing_more n.capacity n.kind n.place n.weight s.from s.end s.j s.words.now l.words l.a c.joined.result c.lists.result l.invariant c.loop-a-test.true (c.requires.2 l.a) c.lists.ensures c.joined.ensures

pub returns : goal.returns
returns c =
    let n = net_of c.args.net.now in
    let s = c.args in
    listing_all n.capacity n.kind n.place n.weight s.from s.end s.j s.words.now c.loop-a.words c.loop-a.a c.loop-a.invariant c.loop-a-test.false
