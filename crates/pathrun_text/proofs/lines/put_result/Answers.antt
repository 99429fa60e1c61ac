-- `put_result` meets its contract: the lines fit, since no output is longer than `longest`, and each stands behind those before it.
use Rattle.net.specs.Readable.{labels}
use Rattle.net.specs.Record.{net_of}
use Rattle.pathrun_text.proofs.Names.{labels_short}
use Rattle.pathrun_text.proofs.Rows.{never_short, with_deviations, without_deviations}
use Rattle.pathrun_text.proofs.lines.put_result.Goals as goal

pub returns-in_err-means : goal.returns-in_err-means
returns-in_err-means c =
    let a = c.args in
    let n = a.net.now in
    let q = c.requires in
    absurd (never_short a.out.now n.places a.samples a.realizations (labels (net_of n)) (labels_short n.label.now n.lengths.now 0 n.places) a.mean.now a.deviation.now q.0 q.1 q.2 q.3 q.4 q.5 c.ranges.realizations.fits c.in_ok-head.ensures c.in_err-means.ensures)

pub returns-then-realizations-gt1 : goal.returns-then-realizations-gt1
returns-then-realizations-gt1 c =
    let a = c.args in
    let n = a.net.now in
    let q = c.requires in
    with_deviations a.out.now n.places a.samples a.realizations (labels (net_of n)) (labels_short n.label.now n.lengths.now 0 n.places) a.mean.now a.deviation.now q.0 q.1 q.2 q.3 q.4 q.5 c.ranges.realizations.fits
    c.if-realizations-gt1.true
    c.in_ok-head.ensures
    c.in_ok-means.ensures
    c.put_lines-then-realizations-gt1.ensures

pub returns : goal.returns
returns c =
    let a = c.args in
    let n = a.net.now in
    let q = c.requires in
    without_deviations a.out.now n.places a.samples a.realizations (labels (net_of n)) (labels_short n.label.now n.lengths.now 0 n.places) a.mean.now a.deviation.now q.0 q.1 q.2 q.3 q.4 q.5 c.ranges.realizations.fits
    c.if-realizations-gt1.false
    c.in_ok-head.ensures
    c.in_ok-means.ensures
