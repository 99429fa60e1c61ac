-- Enabled by the table of limits, then its takes and puts: the game's firing. Assumes nothing.
use Rattle.std.proofs.Common.{refl, sym, ◌∙◌}
use Rattle.net.specs.Record.{net_of}
use Rattle.engine.specs.Engine.{marking}
use Rattle.game.proofs.Firing.{not_fired, says, gives}
use Rattle.game.proofs.search.Game.fired.Goals as goal

pub returns-then-not-enabled : goal.returns-then-not-enabled
returns-then-not-enabled c =
    let n = c.args.self.now.net.now in
    not_fired (net_of n) (marking n.places c.args.counts) c.args.j c.requires.0 (sym c.enabled.ensures ∙ c.if-not-enabled.true)

pub returns-in_err-fire : goal.returns-in_err-fire
returns-in_err-fire c =
    let n = c.args.self.now.net.now in
    rw c.from_residual.ensures
    (says (net_of n) (marking n.places c.args.counts) c.args.j c.requires.0 (marking n.places c.fire.new.counts) _ (sym c.enabled.ensures ∙ c.if-not-enabled.false)
    c.in_err-fire.ensures.moves)

pub returns : goal.returns
returns c =
    let n = c.args.self.now.net.now in
    let m = marking n.places c.args.counts in
    let after = marking n.places c.fire.new.counts in
    let may = sym c.enabled.ensures ∙ c.if-not-enabled.false in (
      says (net_of n) m c.args.j c.requires.0 after _ may c.in_ok-fire.ensures.moves,
      gives (net_of n) m c.args.j c.requires.0 after _ may c.in_ok-fire.ensures.moves refl,
      c.fire.ensures.small,
    )
