-- The sums in front of the lowest transition that changed stay good, and those from it on are made anew (Refreshing). Assumes nothing.
use borrow.Author.Rules.{rules}
use native.Mathlib.Omega.{arith}
use Prim.Native.Nat.{◌^◌, ◌<◌}
use Rattle.net.specs.declared.Net.{Net as NetRecord}
use Rattle.net.specs.Net.{Marking}
use Rattle.net.specs.Readable.{readable}
use Rattle.net.specs.Record.{net_of}
use Rattle.engine.specs.Engine.{marking}
use Rattle.kept.proofs.Refreshing.{sums_same, lowest_inside, front_kept, worked_whole, marks_some}
use Rattle.kept.proofs.refresh.refresh.Statement.{statement}
use Rattle.kept.proofs.refresh.refresh.Tie as tie

abbrev net : tie.Start → NetRecord
net r =
    let s = r.args in
    net_of s.net.now

abbrev tokens : tie.Start → Marking
tokens r = marking r.args.net.now.places r.args.counts.now

-- they are words
marks_fit : (t : tie.After-settle-settled) → t.settle-settled.result.marks < 2 ^ 64
marks_fit t = search rules

changed_fits : (t : tie.After-settle-settled) → t.settle-settled.result.changed < 2 ^ 64
changed_fits t = search rules

settle-requires : tie.Need-settle-settled-requires
settle-requires c κs =
    let p = c.requires in
    (p.0, p.1, p.2, p.3, p.4, p.5, p.6, p.7, p.8, p.9, p.11)

returns : tie.Need-returns-then-changed-eq0
returns c =
    let t = c.before in
    let r = t.before.before in
    let s = r.args in
    let p = r.requires in
    let x = t.settle-settled.result in
    let e = t.settle-settled.ensures in (
      worked_whole (net r) (tokens r) x.able s.props.now _ s.sums.now p.0 e.0 p.11 e.2,
      e.0,
      e.1,
      sums_same (net r) (tokens r) x.able s.props.now _ s.sums.now p.0 e.0 p.11 e.2 x.changed e.3 s.a0 c.if-changed-eq0.true p.10,
      marks_some (readable (net r)) (tokens r) x.able x.marks (marks_fit t) e.1,
      e.2,
      p.12,
    )

cast-from : tie.Need-overflow_cast-from
cast-from c =
    let t = c.before in
    let r = t.before.before in
    let s = r.args in
    let p = r.requires in
    let x = t.settle-settled.result in
    let e = t.settle-settled.ensures in
    omega (
      arith,
      p.0.transitions,
      lowest_inside (net r) (tokens r) x.able s.props.now _ s.sums.now p.0 e.0 p.11 e.2 x.changed e.3 (changed_fits t) e.4 c.if-changed-eq0.false,
    )

resum-requires : tie.Need-resum-total-requires
resum-requires c κs =
    let t = c.before.before in
    let r = t.before.before in
    let s = r.args in
    let p = r.requires in
    let x = c.settle-settled.result in
    let e = c.settle-settled.ensures in (
      p.0.transitions,
      omega (arith, lowest_inside (net r) (tokens r) x.able s.props.now _ s.sums.now p.0 e.0 p.11 e.2 x.changed e.3 (changed_fits t) e.4 c.if-changed-eq0.false),
      e.2,
      p.12,
      front_kept (net r) (tokens r) x.able s.props.now _ s.sums.now p.0 e.0 p.11 e.2 x.changed e.3 (changed_fits t) e.4 c.if-changed-eq0.false p.10.each,
    )

returns-2 : tie.Need-returns
returns-2 c =
    let t = c.before.before.before in
    let r = t.before.before in
    let s = r.args in
    let p = r.requires in
    let x = c.settle-settled.result in
    let e = c.settle-settled.ensures in (
      worked_whole (net r) (tokens r) x.able s.props.now _ s.sums.now p.0 e.0 p.11 e.2,
      e.0,
      e.1,
      record { each = c.resum-total.ensures.1; all = c.resum-total.ensures.2 },
      marks_some (readable (net r)) (tokens r) x.able x.marks (marks_fit t) e.1,
      e.2,
      c.resum-total.ensures.0,
    )

pub refresh_spec : {M : Type 1} → statement M
refresh_spec =
    tie.close
    (tie.spec
    settle-requires
    returns
    cast-from
    resum-requires
    returns-2)
