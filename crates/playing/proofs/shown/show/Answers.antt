-- The instants reached lie within the list, so what is shown up to them is what the clock reading shows. Where the next instant is not reached, or there is none,
-- nothing is shown.
use Rattle.engine.specs.Engine.{marking}
use Rattle.playing.proofs.Playing.{reached_few, reached_turn, reached_none, shows_none}
use native.Mathlib.Omega.{arith}
use Rattle.playing.proofs.shown.show.Goals as goal

pub fill-requires : goal.fill-requires
fill-requires c =
    let l = c in
    let s = l.args in
    let few = reached_few s.clock s.instants.now s.next l.requires.1 in
    (l.requires.0, omega (arith, few), l.requires.2, l.requires.3, l.requires.4)

pub returns-else-instants-next : goal.returns-else-instants-next
returns-else-instants-next c =
    let s = c.args in
    shows_none s.places s.instants.now s.clock (marking s.places s.counts.now) s.next s.table.now
    (rw c.if-instants-next.false at (reached_turn s.clock s.instants.now s.next c.if-next-n.true))

pub returns-else-next-n : goal.returns-else-next-n
returns-else-next-n c =
    let s = c.args in
    shows_none s.places s.instants.now s.clock (marking s.places s.counts.now) s.next s.table.now
    (reached_none s.clock s.instants.now s.next c.if-next-n.false)
