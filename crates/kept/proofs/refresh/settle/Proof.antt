-- What each call leaves, put together (Settling). Assumes nothing.
use borrow.Author.Rules.{rules}
use mathlib.Core.Path.{◌∙◌}
use Rattle.net.specs.declared.Net.{Net as NetRecord}
use Rattle.net.specs.Record.{net_of}
use Rattle.kept.proofs.Settling.{tested_below, work_below, due_below, due_props, settled_all}
use Rattle.kept.proofs.refresh.settle.Statement.{statement}
use Rattle.kept.proofs.refresh.settle.Tie as tie

abbrev net : tie.Start → NetRecord
net r =
    let s = r.args in
    net_of s.net.now

without-requires : tie.Need-without-tested-requires
without-requires c κs = search rules

retest-requires : tie.Need-retest-found-requires
retest-requires c κs =
    let w = c.before in
    let r = w.before in
    let s = r.args in
    let p = r.requires in (
      p.0,
      p.1,
      p.2,
      tested_below (net r) s.counts.now p.0 p.2 s.moved s.crossed s.able s.tables.now.timed s.tables.now.heavy s.marks s.props.now p.5 p.6 p.7 p.8 p.9 p.10 w.without-tested.result w.without-tested.ensures,
      p.10,
    )

revalue-requires : tie.Need-revalue-requires
revalue-requires c κs =
    let t = c.before in
    let w = t.before.before in
    let r = w.before in
    let s = r.args in
    let p = r.requires in (
      p.0,
      p.1,
      p.2,
      p.3,
      p.4,
      work_below (net r) s.counts.now p.0 p.2 s.moved s.crossed s.able s.tables.now.timed s.tables.now.heavy s.marks s.props.now p.5 p.6 p.7 p.8 p.9 p.10 w.without-tested.result w.without-tested.ensures
          t.retest-found.result t.retest-found.ensures.0 _ t.retest-found.ensures.1,
      t.retest-found.ensures.1.long ∙ p.10,
    )

without-requires-2 : tie.Need-without-old-requires
without-requires-2 c κs = search rules

remark-requires : tie.Need-remark-fresh-requires
remark-requires c κs =
    let v = c.before.before in
    let t = v.before.before in
    let w = t.before.before in
    let r = w in
    let s = r.args in
    let p = r.requires in (
      p.0,
      p.2,
      due_below (net r) s.counts.now p.0 p.2 s.moved s.crossed s.able s.tables.now.timed s.tables.now.heavy s.marks s.props.now p.5 p.6 p.7 p.8 p.9 p.10 c.without-tested.result c.without-tested.ensures
          c.retest-found.result c.retest-found.ensures.0 _ c.retest-found.ensures.1 _ c.revalue.ensures,
      due_props (net r) s.counts.now p.0 p.2 s.moved s.crossed s.able s.tables.now.timed s.tables.now.heavy s.marks s.props.now p.5 p.6 p.7 p.8 p.9 p.10 c.without-tested.result c.without-tested.ensures
          c.retest-found.result c.retest-found.ensures.0 _ c.retest-found.ensures.1 _ c.revalue.ensures,
    )

returns : tie.Need-returns
returns c =
    let o = c.before.before in
    let v = o.before in
    let t = v.before.before in
    let w = t.before.before in
    let r = w in
    let s = r.args in
    let p = r.requires in
    settled_all (net r) s.counts.now p.0 p.2 s.moved s.crossed s.able s.tables.now.timed s.tables.now.heavy s.marks s.props.now p.5 p.6 p.7 p.8 p.9 p.10 c.without-tested.result c.without-tested.ensures
    c.retest-found.result c.retest-found.ensures.0 _ c.retest-found.ensures.1 _ c.revalue.ensures c.without-old.result c.remark-fresh.result c.without-old.ensures c.remark-fresh.ensures

pub settle_spec : {M : Type 1} → statement M
settle_spec =
    tie.close
    (tie.spec
    without-requires
    retest-requires
    revalue-requires
    without-requires-2
    remark-requires
    returns)
