-- The beginning shows the instants at most 0, and the run from there is the path's (proofs/Answered, path-answered).
use native.Mathlib.Omega.{arith}
use mathlib.Core.Path.{refl, ap, sym, subst, ◌∙◌}
use mathlib.Core.Logic.{inl}
use lib.ListN.{drop, replicate}
use Rattle.net.specs.Net.{zero64}
use Rattle.net.specs.Readable.{readable}
use Rattle.net.specs.Record.{net_of}
use Rattle.rng.specs.State.{words}
use Rattle.rules.specs.Step.{state, Answer}
use Rattle.rules.specs.Shown.{last_of}
use Rattle.rules.specs.Moments.{taken_by_timers}
use Rattle.rules.proofs.Play.{Played, higher, play}
use Rattle.timers.specs.InOrder.{in_order}
use Rattle.engine.specs.Engine.{marking}
use Rattle.playing.specs.Playing.{PlayedBy}
use Rattle.playing.specs.Stepping.{Light, state_of}
use Rattle.ssa.proofs.Answered.{path_answered}
use Rattle.playing.proofs.Playing.{shown_within}
use Rattle.ssa.proofs.start.play.Goals as goal

pub play_on-w-requires : goal.play_on-w-requires
play_on-w-requires c =
    let a = c in
    let s = a.args in
    let b = c.begin-s in
    let none = b.ensures.2.list (replicate 256 zero64) (replicate 512 0) in (
      record {
        tidy = a.requires.0;
        limits = a.requires.1;
        small = a.requires.2;
        light = subst Light (sym none) tt;
        sound = λ t. ap in_order none;
      },
      record { most = omega arith; few = omega arith },
      a.requires.4,
      a.requires.5,
      shown_within s.net.now.places s.instants.now _ _ 0 b.result.next s.table.now b.new.table b.ensures.0 (omega arith),
      a.requires.6,
      omega (arith, a.requires.8, b.ensures.0.cells.long),
      inl (omega (arith, b.ensures.3, b.ensures.4, ap taken_by_timers none)),
      omega (arith, b.ensures.3, ap taken_by_timers none),
    )

pub returns : goal.returns
returns c =
    let a = c in
    let s = a.args in
    let b = c.begin-s in
    let p = c.play_on-w in
    let net = net_of s.net.now in
    let xs = s.instants.now in
    let m = marking s.net.now.places s.counts.now in
    let t = p.new.table in
    let none = b.ensures.2.list (replicate 256 zero64) (replicate 512 0) in
    let left = state_of net p.new.counts p.new.ats p.new.owners p.result.timers p.result.clock p.result.rng.s in
    c.answer.ensures t
    ∙ path_answered (readable net) (words s.rng.s) xs s.steps s.net.now.places b.result.next b.result.peak m s.table.now b.new.table
    a.requires.7 a.requires.3 (b.ensures.4 ∙ b.ensures.3) a.requires.8 b.ensures.0 p.result left t refl p.result.end
    (subst (λ (v : Answer Played). PlayedBy v s.net.now.places xs b.result.next b.new.table t left p.result p.result.end)
    (λ i. higher b.result.peak (play 256 (readable net) (last_of xs) s.steps (drop b.result.next xs) (state (b.ensures.1 i) m (none i) (words (b.ensures.5 i).s))))
    p.ensures)
