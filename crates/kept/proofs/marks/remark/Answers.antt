-- Those that left the word are marked where they are rounded (Bitwise). Assumes nothing.
use mathlib.Core.Path.{◌≡◌, sym, ap, ◌∙◌}
use mathlib.Core.Bool.{true, ◌&&◌}
use Prim.Native.Nat.{◌<◌}
use lib.Count.{count_trailing_zeros}
use lib.Ieee.{Float, lt}
use Rattle.words.specs.Bits.{bit}
use Rattle.net.specs.Net.{Transition, zero64}
use Rattle.net.specs.Readable as Record
use Rattle.net.specs.Readable.{readable}
use Rattle.net.specs.Record.{net_of}
use Rattle.rules.specs.Exact.{some_inexact}
use Rattle.rules.specs.Moves.{transition}
use Rattle.rules.specs.Propensity.{propensity}
use Rattle.engine.specs.Engine.{marking}
use Rattle.engine.proofs.Sides.{transition_at}
use Rattle.kept.proofs.Bitwise.{lowest_in, lowest_low, falls, setting_none, setting_more, setting_all}
use Rattle.kept.proofs.marks.remark.Invariants.{rounds}
use Rattle.kept.proofs.marks.remark.Goals as goal
use Rattle.kept.proofs.marks.remark.Goals.{In-loop-left}

-- the lowest of what is left
low : (c : In-loop-left) → count_trailing_zeros 64 c.loop-left.left < 64
low c = lowest_low c.args.word c.loop-left.left c.loop-left.invariant.walk c.loop-left-test.true

in_word : (c : In-loop-left) → bit c.args.word (count_trailing_zeros 64 c.loop-left.left) ≡ true
in_word c = lowest_in c.args.word c.loop-left.left c.loop-left.invariant.walk c.loop-left-test.true

pub loop-left-init : goal.loop-left-init
loop-left-init c =
    setting_none (rounds (net_of c.args.net.now) c.args.counts.now) c.args.word c.args.marks c.without-found.result c.ranges.word.fits c.without-found.ensures

pub rounded-on-requires : goal.rounded-on-requires
rounded-on-requires c = (c.requires.2 _ (in_word (goal.at.rounded-on-requires c).In-loop-left), c.requires.0, c.requires.1)

pub joined-found-requires : goal.joined-found-requires
joined-found-requires c = low (goal.at.joined-found-requires c).In-loop-left

pub loop-left-smaller : goal.loop-left-smaller
loop-left-smaller c = falls c.args.word c.loop-left.left c.loop-left.invariant.walk c.loop-left-test.true

pub loop-left-preserved : goal.loop-left-preserved
loop-left-preserved c =
    let l = c.loop-left in
    let n = net_of c.args.net.now in
    let m = marking n.places c.args.counts.now in
    let t = count_trailing_zeros 64 l.left in
    let here = in_word (goal.at.loop-left-preserved c).In-loop-left in
    setting_more (rounds n c.args.counts.now) c.args.word c.args.marks l.found l.left l.invariant c.loop-left-test.true c.rounded-on.result
    (c.rounded-on.ensures
    ∙ ap (λ (x : Float). lt zero64 x && some_inexact m (Record.transition n t).takes) (c.requires.3 t here)
    ∙ ap (λ (y : Transition). lt zero64 (propensity (readable n) m (transition (readable n) t)) && some_inexact m y.takes) (sym (transition_at n t (c.requires.2 t here))))
    c.joined-found.result c.joined-found.ensures

pub returns : goal.returns
returns c =
    setting_all (rounds (net_of c.args.net.now) c.args.counts.now) c.args.word c.args.marks c.loop-left.found c.loop-left.left c.loop-left.invariant c.loop-left-test.false
