-- The loop fills the instants one by one, and the columns join (proofs/Cells). Where `to` is not above `from` no turn is made. The counts beyond the places do not matter.
use Rattle.playing.proofs.Cells.{filled_none, filled_join, filled_end, filled_marking}
use native.Mathlib.Omega.{arith}
use Prim.Native.Nat.{◌+◌}
use Rattle.playing.proofs.shown.fill.Goals as goal

pub loop-i-init : goal.loop-i-init
loop-i-init c = let s = c.args in (omega arith, filled_none s.places s.n s.from s.from s.counts.now s.table.now (omega arith))

pub fill_column-requires : goal.fill_column-requires
fill_column-requires c =
    let h = c.requires in
    (h.0, omega arith, h.2, omega (arith, c.loop-i.invariant.1.long), h.4)

pub loop-i-preserved : goal.loop-i-preserved
loop-i-preserved c =
    let s = c.args in (
      omega arith,
      filled_join s.places s.n s.from c.loop-i.i (c.loop-i.i + 1) s.counts.now s.table.now c.loop-i.table c.fill_column.new.table (omega arith) (omega arith) (omega arith)
          c.loop-i.invariant.1 c.fill_column.ensures,
    )

pub returns : goal.returns
returns c =
    let s = c.args in
    filled_marking s.places s.n s.from s.to s.counts.now s.table.now c.loop-i.table
    (filled_end s.places s.n s.from c.loop-i.i s.to s.counts.now s.table.now c.loop-i.table (omega arith) (omega arith) c.loop-i.invariant.1)
