-- The tables that the run asks for are lent, the counts are made here, and the generator is that of the path's own seed. Assumes nothing.
use mathlib.Core.Path.{ap, ◌∙◌}
use Rattle.net.specs.Readable.{readable}
use Rattle.net.specs.Record.{net_of}
use Rattle.rng.specs.State.{words}
use Rattle.rng.specs.Splitmix.{seeded}
use Rattle.engine.proofs.Lists.{initial_is}
use Rattle.ssa.proofs.Accepted.{fitting}
use Rattle.ssa.proofs.Summing.{own_path}
use Rattle.ssa.proofs.members.one_path.Goals as goal

pub play-requires : goal.play-requires
play-requires c =
    let s = c in
    let a = s.args in
    let l = s.requires.0 in
    let f = fitting a.instants.now l.fit in
    let counts = c.first_counts-counts.ensures in (
      l.tidy,
      l.limits,
      counts.1,
      counts.0 ∙ initial_is (net_of a.net.now),
      l.tables,
      f.some_instant,
      f.few,
      f.risen,
      s.requires.1,
    )

pub returns : goal.returns
returns c =
    let a = c.args in
    let net = readable (net_of a.net.now) in
    own_path net a.seed a.k a.net.now.places a.instants.now a.path.now (words c.new-rng.result.s) a.steps c.play.ensures
    (c.new-rng.ensures ∙ ap seeded c.seed_of.ensures)
