-- One store, or none. Assumes nothing.
use mathlib.Core.Path.{ap, ◌∙◌}
use mathlib.Core.Bool.{not}
use lib.ListN.{length-set}
use Rattle.net.specs.Net.{zero64}
use Rattle.kept.proofs.Bitwise.{stored, none_stored}
use Rattle.kept.proofs.openness.shut.Goals as goal

pub returns-then-not-on : goal.returns-then-not-on
returns-then-not-on c =
    let r = c in
    let s = r.args in
    (length-set s.props.now s.j zero64 ∙ r.requires.1, stored s.props.now s.j zero64 r.requires.0 r.requires.1 (not s.on) (ap not c.if-not-on.true))

pub returns-else-not-on : goal.returns-else-not-on
returns-else-not-on c =
    let r = c in
    let s = r.args in
    (r.requires.1, none_stored s.props.now s.j zero64 (not s.on) (ap not c.if-not-on.false))
