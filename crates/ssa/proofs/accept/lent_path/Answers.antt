-- The tables that the run asks for are those that the calls before it make. Assumes nothing.
use mathlib.Core.Path.{◌∙◌}
use Rattle.net.specs.Record.{net_of}
use Rattle.engine.proofs.Lists.{initial_is}
use Rattle.ssa.proofs.Accepted.{fitting}
use Rattle.ssa.proofs.accept.lent_path.Goals as goal

pub play-requires : goal.play-requires
play-requires c =
    let s = c in
    let a = s.args in
    let f = fitting a.instants.now s.requires.2 in
    let counts = c.first_counts-counts.ensures in (
      s.requires.0,
      c.fill_tables.ensures.0,
      counts.1,
      counts.0 ∙ initial_is (net_of a.net.now),
      c.fill_tables.ensures.1,
      f.some_instant,
      f.few,
      f.risen,
      s.requires.3,
    )
