-- A path that is refused stops, and else its cells and their squares are added. Assumes nothing.
use Rattle.std.proofs.Common.{◌*◌, arith, ◌∙◌}
use Rattle.net.specs.Record.{net_of}
use Rattle.net.specs.Readable.{readable}
use Rattle.averages.specs.Moments.{plus, plus_square}
use Rattle.sde.specs.Summed.{path_of}
use Rattle.sde.proofs.Members.{path_is, none_yet, sums_first, summed_from, sums_stop, sums_next, sums_all}
use Rattle.sde.proofs.paths.sum_paths.Goals as goal

pub loop-k-init : goal.loop-k-init
loop-k-init c =
    let r = c.args.run.now in
    let cells = r.net.places * r.n in
    sums_first (path_of (readable (net_of r.net)) r.n r.dt c.args.seed) c.args.realizations cells _ _ c.args.path.now
    (none_yet plus cells c.args.mean.now _ c.requires.1 c.clear.ensures).0 (none_yet plus_square cells c.args.deviation.now _ c.requires.2 c.clear-2.ensures).0

pub returns-in-Err : goal.returns-in-Err
returns-in-Err c =
    let r = c.args.run.now in
    let cells = r.net.places * r.n in
    let e = none_yet plus cells c.args.mean.now _ c.requires.1 c.clear.ensures in
    let f = none_yet plus_square cells c.args.deviation.now _ c.requires.2 c.clear-2.ensures in
    summed_from e.1 f.1
    (sums_stop (path_of (readable (net_of r.net)) r.n r.dt c.args.seed) c.args.realizations cells c.loop-k.k c.loop-k.invariant c.loop-k-test.true c.walk.result c.walk.new.table
    (c.walk.ensures.0 ∙ path_is (net_of r.net) r.n r.dt c.args.seed c.loop-k.k c.seed_of-own.ensures) c.walk.ensures.1 _ c.in-Err.is
    (omega (arith, c.requires.1, e.1.long)) (omega (arith, c.requires.2, f.1.long)))

pub loop-k-preserved : goal.loop-k-preserved
loop-k-preserved c =
    let r = c.args.run.now in
    let cells = r.net.places * r.n in
    sums_next (path_of (readable (net_of r.net)) r.n r.dt c.args.seed) c.args.realizations cells c.loop-k.k c.loop-k.invariant c.loop-k-test.true c.walk.result c.walk.new.table
    (c.walk.ensures.0 ∙ path_is (net_of r.net) r.n r.dt c.args.seed c.loop-k.k c.seed_of-own.ensures) c.walk.ensures.1 _ c.in_default.is c.requires.3 _ _
    c.add.ensures c.add_squares.ensures

pub returns : goal.returns
returns c =
    let r = c.args.run.now in
    let cells = r.net.places * r.n in
    let e = none_yet plus cells c.args.mean.now _ c.requires.1 c.clear.ensures in
    let f = none_yet plus_square cells c.args.deviation.now _ c.requires.2 c.clear-2.ensures in
    summed_from e.1 f.1
    (sums_all (path_of (readable (net_of r.net)) r.n r.dt c.args.seed) c.args.realizations cells c.loop-k.k c.loop-k.invariant c.requires.0 c.loop-k.auto.k-end c.loop-k-test.false)
