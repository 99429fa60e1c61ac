-- The tables that the run asks for are those that the calls before it make, and the run with the peak to go on with is the run with the peak that is
-- carried. Assumes nothing.
use native.Mathlib.Omega.{arith}
use lib.ListN.{drop}
use Rattle.playing.specs.Playing.{out_of}
use Rattle.playing.proofs.Finished.{last_at}
use Rattle.ssa.proofs.Resumed.{played_same}
use Rattle.ssa.proofs.until.lent_on.Goals as goal

pub play_on-requires : goal.play_on-requires
play_on-requires c =
    let p = c in
    let f = p in
    let s = f in
    let r = s.requires.2 in (
      record { tidy = s.requires.0; limits = f.fill_tables.ensures.0; small = r.small; light = r.light; sound = r.sound },
      record { most = omega arith; few = omega arith },
      f.fill_tables.ensures.1,
      s.requires.3,
      s.requires.4,
      s.requires.5,
      s.requires.6,
      (rw (last_at s.args.instants.now s.requires.3) at p.first_peak-most.ensures.0),
      s.requires.7,
    )

pub returns : goal.returns
returns c =
    let p = c in
    let s = p in
    let a = s.args in
    let xs = a.instants.now in
    played_same (rw (last_at xs s.requires.3) at (p.first_peak-most.ensures.1 (out_of a.halts) (drop a.s.next xs)))
    c.play_on.ensures
