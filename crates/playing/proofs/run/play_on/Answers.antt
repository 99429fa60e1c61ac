-- What is kept is as at a first step (proofs/Carrying, carried_first); the loop and the end leave the cells of the run (proofs/Finished, played-by).
use native.Mathlib.Omega.{arith}
use mathlib.Core.Path.{sym, subst}
use lib.ListN.{length, drop}
use lib.Ieee.{Float}
use Rattle.net.specs.Net.{Marking}
use Rattle.net.specs.Readable.{readable}
use Rattle.net.specs.Record.{net_of}
use Rattle.rules.specs.Shown.{last_of}
use Rattle.rules.proofs.Play.{higher, play_within}
use mathlib.Core.List.{List}
use Rattle.playing.specs.Playing.{out_of, Listed, WalkBy}
use Rattle.playing.specs.Stepping.{state_of, Topped}
use Rattle.playing.proofs.Carrying.{carried_first}
use Rattle.playing.proofs.Finished.{last_at, played_by}
use Rattle.playing.proofs.run.play_on.Goals as goal

pub take_steps-w-requires : goal.take_steps-w-requires
take_steps-w-requires c =
    let a = c in
    let s = a.args in
    let net = net_of s.net.now in (
      a.requires.0,
      a.requires.1,
      a.requires.2,
      carried_first net _ _ a.requires.0.tidy.transitions c.all_of.ensures,
      a.requires.4,
      a.requires.5,
      a.requires.6,
      subst (λ (l : Float). Topped s.room (readable net) l s.steps (state_of net s.counts.now s.ats.now s.owners.now s.s.timers s.s.clock s.s.rng.s) s.s.peak)
          (sym (last_at s.instants.now a.requires.3)) a.requires.7,
      a.requires.8,
      c.unit_wait.ensures,
    )

pub finish-requires : goal.finish-requires
finish-requires c =
    let a = c in
    let w = c.take_steps-w in
    (a.requires.0.tidy.places, a.requires.5, omega (arith, a.requires.6, w.ensures.kept.1), w.ensures.kept.0)

pub returns : goal.returns
returns c =
    let a = c in
    let s = a.args in
    let w = c.take_steps-w in
    let net = net_of s.net.now in
    let from = state_of net s.counts.now s.ats.now s.owners.now s.s.timers s.s.clock s.s.rng.s in
    let left = state_of net w.new.counts w.new.ats w.new.owners w.result.timers w.result.clock w.result.rng.s in
    played_by (higher s.s.peak (play_within (out_of s.halts) s.room (readable net) (last_of s.instants.now) s.steps (drop s.s.next s.instants.now) from))
    s.net.now.places s.instants.now s.s.next s.table.now w.new.table c.finish.new.table left w.result a.requires.6 w.ensures.kept.1 w.result.end
    (subst (λ (l : Float). WalkBy (higher s.s.peak (play_within (out_of s.halts) s.room (readable net) l s.steps (drop s.s.next s.instants.now) from)) s.instants.now left
    (λ (sh : List Marking). Listed s.net.now.places (length s.instants.now) s.s.next w.result.next sh s.table.now w.new.table) w.result w.result.end)
    (last_at s.instants.now a.requires.3) w.ensures.is)
    w.ensures.kept.2 c.finish.ensures
