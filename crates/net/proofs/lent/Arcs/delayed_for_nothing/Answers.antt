-- There is no take where no slot holds one. Assumes nothing.
use mathlib.Core.Path.{sym, ap, ◌∙◌}
use mathlib.Core.Bool.{not}
use Rattle.net.specs.Readable.{lent_slots}
use Rattle.net.proofs.Slots.{empty_takes, and_both}
use Rattle.net.proofs.lent.Arcs.delayed_for_nothing.Goals as goal

pub returns-then-delay : goal.returns-then-delay
returns-then-delay c = and_both c.if-delay.true (ap not c.any_take.ensures ∙ sym (empty_takes (lent_slots c.args.self.now)))
