-- By the table: the counts of one place or two, or the walk. Assumes nothing.
use native.Mathlib.Omega.{arith}
use Prim.Native.Nat.{◌-◌, ◌*◌, ◌≤◌, ◌<◌}
use lib.ListN.{get_or}
use lib.Ieee.{nan}
use Rattle.net.specs.Record.{net_of}
use Rattle.kept.proofs.Valuing.{valuing_alone, valuing_two}
use Rattle.kept.proofs.values.value.Goals as goal
use Rattle.kept.proofs.values.value.Goals.{Start}

-- the place is one of the counts
inside : (r : Start) → 2048 ≤ get_or r.args.tables.now.ends r.args.j 0 → get_or r.args.tables.now.ends r.args.j 0 < 4096 → get_or r.args.tables.now.ends r.args.j 0 - 2048 < 32
inside r h l =
    let a = r.requires.5.alone r.args.j r.requires.0 h l in
    omega (arith, a.from, r.requires.1.place (16 * r.args.j), r.requires.1.places)

pub times_two-requires : goal.times_two-requires
times_two-requires c =
    let t = c.requires.1 in
    (omega (arith, c.requires.0, t.transitions), λ a. omega (arith, t.place a, t.places), c.requires.3)

pub returns-then-end-ge-TWO : goal.returns-then-end-ge-TWO
returns-then-end-ge-TWO c =
    let s = c.args in
    let r = c.requires in
    valuing_two (net_of s.net.now) s.counts.now s.j r.1 r.0 (r.5.two s.j r.0 c.if-end-ge-TWO.true)
    (get_or s.tables.now.rates s.j nan) c.times_two.result (r.4 s.j r.0) c.times_two.ensures

pub bounds-counts-p : goal.bounds-counts-p
bounds-counts-p c = inside (goal.at.bounds-counts-p c).Start c.if-end-ge-ALONE.true (omega (arith, c.if-end-ge-TWO.false))

pub offset_bounds-counts-p : goal.offset_bounds-counts-p
offset_bounds-counts-p c =
    omega (arith, inside (goal.at.offset_bounds-counts-p c).Start c.if-end-ge-ALONE.true (omega (arith, c.if-end-ge-TWO.false)))

pub times-requires : goal.times-requires
times-requires c = (c.requires.3.small (get_or c.args.tables.now.ends c.args.j 0 - 2048), λ e. omega arith)

pub returns-then-end-ge-ALONE : goal.returns-then-end-ge-ALONE
returns-then-end-ge-ALONE c =
    let s = c.args in
    let r = c.requires in
    valuing_alone (net_of s.net.now) s.counts.now s.j (get_or s.tables.now.ends s.j 0 - 2048) r.1 r.0
    (r.5.alone s.j r.0 c.if-end-ge-ALONE.true (omega (arith, c.if-end-ge-TWO.false)))
    (get_or s.tables.now.rates s.j nan) c.times.result (r.4 s.j r.0) c.times.ensures

pub walked-requires : goal.walked-requires
walked-requires c =
    let j = c.args.j in
    let r = c.requires in
    let e = r.5 in
    (r.0, r.1, r.2, r.3, r.4, e.inside j r.0 (omega (arith, c.if-end-ge-ALONE.false)), λ a. e.behind j a r.0 (omega (arith, c.if-end-ge-ALONE.false)))
