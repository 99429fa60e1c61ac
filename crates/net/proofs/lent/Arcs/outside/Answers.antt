-- By an arc, where rate and delay fit. Assumes nothing.
use mathlib.Core.Path.{sym, ◌∙◌}
use Rattle.net.specs.Readable.{lent_slots}
use Rattle.net.proofs.Domain.{by_arcs}
use Rattle.net.proofs.lent.Arcs.outside.Goals as goal

pub returns : goal.returns
returns c =
    c.outside_arc.ensures
    ∙ by_arcs _ _ _ (lent_slots c.args.self.now) c.if-strange.false (sym c.rate_fits.ensures ∙ c.if-not-rate_fits.false) (sym c.delay_fits.ensures ∙ c.if-not-delay_fits.false)
