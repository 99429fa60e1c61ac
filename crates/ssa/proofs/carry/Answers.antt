-- By the first test that the call meets, or its run (Continued). The nets of a path that is played on have as many places, so what is said over the
-- places of the new one is said over those of the old. Assumes nothing.
use Rattle.std.proofs.Common.{ℕ, subst, ◌∙◌, arith}
use Rattle.net.specs.Readable.{readable}
use Rattle.net.specs.Record.{net_of}
use Rattle.net.proofs.Lengths.{places_length, transitions_length}
use Rattle.net.proofs.Sound.{sound}
use Rattle.carried.specs.Pairs.{pairs_of}
use Rattle.ssa.specs.Halted.{standing_of, carried_from, Passes}
use Rattle.ssa.proofs.Continued.{carrying_by, passing_all, same_places, answers_same}
use Rattle.ssa.proofs.carry.Goals as goal

pub accepted_carry-requires : goal.accepted_carry-requires
accepted_carry-requires c =
    let a = c.args in
    let old = net_of a.old.now in
    let new = net_of a.net.now in
    let ps = pairs_of a.pairs.now in
    let s = standing_of a.old.now.places a.path in
    let p = passing_all a.old.now.places old new ps s a.instants.now a.table.now c.in-Ok.ensures in
    let few = (sound old p.old_sound).transitions in
    let same = same_places old new (carried_from a.old.now.places s a.instants.now a.table.now) ps p.list in (
      p.new_sound,
      subst (λ (k : ℕ). Passes k (readable new) ps a.path a.instants.now a.table.now) same
          (p.state, (readable old, places_length old, omega (arith, few, transitions_length old), p.list)),
    )

pub returns-in-Ok : goal.returns-in-Ok
returns-in-Ok c =
    let a = c.args in
    let old = net_of a.old.now in
    let new = net_of a.net.now in
    let ps = pairs_of a.pairs.now in
    let s = standing_of a.old.now.places a.path in
    let p = passing_all a.old.now.places old new ps s a.instants.now a.table.now c.in-Ok.ensures in
    answers_same (readable new) ps a.path a.instants.now a.table.now a.named c.accepted_carry.result
    (same_places old new (carried_from a.old.now.places s a.instants.now a.table.now) ps p.list) c.accepted_carry.ensures
    ∙ carrying_by old new ps s a.instants.now a.named a.table.now c.in-Ok.ensures

pub returns-in-Err : goal.returns-in-Err
returns-in-Err c =
    let a = c.args in
    c.turned_down.ensures a.old.now.places a.table.now
    ∙ carrying_by (net_of a.old.now) (net_of a.net.now) (pairs_of a.pairs.now) (standing_of a.old.now.places a.path) a.instants.now a.named a.table.now c.in-Err.ensures
