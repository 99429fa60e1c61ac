-- Each answer is the definition's by the tests that led to it (Changed). A readable net has as many places and transitions as its record says.
use Rattle.std.proofs.Common.{ℕ, List, not, sym, ap, ◌∙◌, arith}
use borrow.Author.Tests.{not-true, not-false}
use Rattle.net.specs.Readable.{readable}
use Rattle.net.specs.Record.{net_of}
use Rattle.net.specs.Tests.{any}
use Rattle.net.proofs.Lengths.{places_length, transitions_length}
use Rattle.net.proofs.Sound.{sound}
use Rattle.rules.specs.Change.{new_number, sent_wrong}
use Rattle.rules.specs.Timers.{Timer}
use Rattle.carried.specs.Pairs.{pairs_of}
use Rattle.ssa.proofs.Changed.{by_places, by_list, by_timers, by_no_timer}
use Rattle.ssa.proofs.change.list_fault.Goals as goal

pub returns-then-old-net : goal.returns-then-old-net
returns-then-old-net c =
    let a = c.args in
    let old = net_of a.old.now in
    let new = net_of a.net.now in
    let ps = pairs_of a.pairs.now in
    λ path e. by_places (readable old) (readable new) path ps (λ q. c.if-old-net.true (sym (places_length old) ∙ q ∙ places_length new))

pub list_fits-requires : goal.list_fits-requires
list_fits-requires c =
    (c.requires.1, (sound (net_of c.args.net.now) c.requires.0).transitions)

pub returns-then-not-list_fits : goal.returns-then-not-list_fits
returns-then-not-list_fits c =
    let a = c.args in
    let old = net_of a.old.now in
    let new = net_of a.net.now in
    let ps = pairs_of a.pairs.now in
    let many = places_length old ∙ c.if-old-net.false ∙ sym (places_length new) in
    λ path e.
    by_list (readable old) (readable new) path ps many
    (not-false _ (sym (c.list_fits.ensures (readable old) (readable new) (transitions_length old) (transitions_length new)) ∙ c.if-not-list_fits.true))

pub returns-then-timers_fit : goal.returns-then-timers_fit
returns-then-timers_fit c =
    let a = c.args in
    let old = net_of a.old.now in
    let new = net_of a.net.now in
    let ps = pairs_of a.pairs.now in
    let many = places_length old ∙ c.if-old-net.false ∙ sym (places_length new) in
    let listed = not-true _ (sym (c.list_fits.ensures (readable old) (readable new) (transitions_length old) (transitions_length new)) ∙ c.if-not-list_fits.false) in
    λ path e.
    let sent = c.timers_fit.ensures (readable old) ps a.timers.now.ats a.timers.now.takens (omega (arith, c.requires.1, transitions_length old)) listed c.names_of-names.ensures
    ∙ ap (λ (q : List Timer). not (any (λ (x : Timer). sent_wrong (readable new) (new_number ps x.who)) q)) (sym e) in
    by_no_timer (readable old) (readable new) path ps many listed (not-true _ (sym sent ∙ c.if-timers_fit.true))

pub returns : goal.returns
returns c =
    let a = c.args in
    let old = net_of a.old.now in
    let new = net_of a.net.now in
    let ps = pairs_of a.pairs.now in
    let many = places_length old ∙ c.if-old-net.false ∙ sym (places_length new) in
    let listed = not-true _ (sym (c.list_fits.ensures (readable old) (readable new) (transitions_length old) (transitions_length new)) ∙ c.if-not-list_fits.false) in
    λ path e.
    let sent = c.timers_fit.ensures (readable old) ps a.timers.now.ats a.timers.now.takens (omega (arith, c.requires.1, transitions_length old)) listed c.names_of-names.ensures
    ∙ ap (λ (q : List Timer). not (any (λ (x : Timer). sent_wrong (readable new) (new_number ps x.who)) q)) (sym e) in
    by_timers (readable old) (readable new) path ps many listed (not-false _ (sym sent ∙ c.if-timers_fit.false))
