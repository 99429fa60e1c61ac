-- The bits of a union. Assumes nothing.
use Rattle.words.proofs.Bits.{bit_or_lem}
use Rattle.engine.proofs.guards.crossed.Goals as goal

pub returns : goal.returns
returns c = λ j. simp (bit_or_lem c.edge.result c.range.result j, c.edge.ensures j, c.range.ensures j)
