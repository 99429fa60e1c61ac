-- A transition from number j on would start just where one of all would, since none before j would. Assumes nothing.
use Rattle.net.specs.Net.{Transition}
use mathlib.Core.Path.{sym, ◌∙◌}
use mathlib.Core.Bool.{Bool, ◌&&◌}
use Rattle.net.specs.Record.{net_of}
use Rattle.net.specs.Readable.{readable, transition}
use Rattle.rules.specs.Enabled.{enabled}
use Rattle.rules.proofs.Happening.{ready}
use Rattle.engine.specs.Engine.{marking}
use Rattle.engine.proofs.Lists.{any_whole, any_stop, any_go, any_end}
use Rattle.playing.proofs.peak.some_ready.Goals as goal
use Rattle.playing.proofs.peak.some_ready.Goals.{Start, else-net-j-via-then-net-j+else-enabled, else-net-j-via-else-net-j}

-- whether a transition would start
abbrev on : Start → Transition → Bool
on s = ready (readable (net_of s.args.net.now)) (marking s.args.net.now.places s.args.counts.now)

pub loop-j-init : goal.loop-j-init
loop-j-init c = any_whole (on (goal.at.loop-j-init c).Start) (net_of c.args.net.now) c.args.net.now.transitions

pub enabled-requires : goal.enabled-requires
enabled-requires c = (c.loop-j-test.true, c.requires.0, c.requires.1, c.requires.2)

pub returns-then-enabled : goal.returns-then-enabled
returns-then-enabled c =
    any_stop (on (goal.at.returns-then-enabled c).Start) (net_of c.args.net.now) c.loop-j.j c.args.net.now.transitions c.loop-j.invariant c.loop-j-test.true
    (λ i. c.if-net-j.true i && (sym c.enabled.ensures ∙ c.if-enabled.true) i)

pub loop-j-preserved : goal.loop-j-preserved
loop-j-preserved c =
    let s = (goal.at.loop-j-preserved c).Start in
    let n = net_of c.args.net.now in
    let j = c.loop-j.j in
    elim c.else-net-j.branch [
      | else-net-j-via-then-net-j+else-enabled w ↦ any_go (on s) n j n.transitions c.loop-j.invariant c.loop-j-test.true
          (λ i. w.if-net-j.true i && (sym w.enabled.ensures ∙ w.if-enabled.false) i)
      | else-net-j-via-else-net-j w ↦ any_go (on s) n j n.transitions c.loop-j.invariant c.loop-j-test.true
          (λ i. w.if-net-j.false i && enabled (readable n) (marking n.places c.args.counts.now) (transition n j))
    ]

pub returns : goal.returns
returns c = any_end (on (goal.at.returns c).Start) (net_of c.args.net.now) c.loop-j.j c.args.net.now.transitions c.loop-j.invariant c.loop-j-test.false
