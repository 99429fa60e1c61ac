-- Equal lines are the same byte by byte (Turns).
use Rattle.std.proofs.lemmas.Bool.Decides.{Decides-eqb}
use Rattle.std.proofs.lemmas.Slice.Eq.{slice_eq-Decides}
use Rattle.net_text.proofs.Turns.{same_if}
use Rattle.net_text.proofs.order.is_word.Goals as goal

pub returns : goal.returns
returns c = same_if c.args.line.now c.args.w.now c.eq.result (slice_eq-Decides Decides-eqb c.args.line.now c.args.w.now c.eq.result c.eq.ensures)
