-- The loop writes the cells of one instant, place by place (proofs/Cells, Column); the cast to a signed number keeps a count of at most 2 ^ 53.
use Rattle.playing.proofs.Cells.{Column}
use Rattle.playing.proofs.shown.fill_column.Given as goal

abbrev pub invariant-loop-p : goal.invariant-loop-p
invariant-loop-p l = Column l.n l.i l.p l.counts l.initial.table l.table
