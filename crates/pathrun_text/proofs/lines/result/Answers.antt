-- `result` meets its contract: the lines fit, since no output is longer than `longest`.
use Rattle.net.specs.Readable.{labels}
use Rattle.net.specs.Record.{net_of}
use Rattle.result_text.specs.Lines.{printed}
use Rattle.pathrun_text.specs.Pathrun.{rows}
use Rattle.pathrun_text.proofs.Names.{labels_short}
use Rattle.pathrun_text.proofs.Rows.{front_of, all_fits}
use Rattle.pathrun_text.proofs.lines.result.Goals as goal

pub returns : goal.returns
returns c =
    let a = c.args in
    let n = a.net.now in
    let q = c.requires in
    front_of a.out.now
    (printed n.places a.samples a.realizations (labels (net_of n)) (rows n.places a.samples a.mean.now) (rows n.places a.samples a.deviation.now))
    (all_fits a.out.now n.places a.samples a.realizations (labels (net_of n)) (labels_short n.label.now n.lengths.now 0 n.places) a.mean.now a.deviation.now q.0 q.1 q.2 q.3 q.4 q.5 c.ranges.realizations.fits)
    c.put_result.ensures
    c.unwrap_or.ensures
