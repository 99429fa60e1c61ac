-- Those that left the word are in the answer where they are enabled, and where they are not their propensity is 0 (Bitwise). Assumes nothing.
use mathlib.Core.Path.{◌≡◌, sym, ap, ◌∙◌}
use mathlib.Core.Bool.{true, ◌&&◌, not}
use Prim.Native.Nat.{◌<◌}
use lib.Count.{count_trailing_zeros}
use lib.Dec.{eqb}
use lib.Ieee.{nan}
use lib.ListN.{get_or}
use Rattle.words.specs.Bits.{bit}
use Rattle.net.specs.Net.{pick, zero64}
use Rattle.net.specs.Readable.{readable}
use Rattle.net.specs.Record.{net_of}
use Rattle.rules.specs.Enabled.{enabled}
use Rattle.engine.specs.Engine.{marking}
use Rattle.engine.proofs.Sides.{transition_at}
use Rattle.kept.proofs.Bitwise.{lowest_in, lowest_low, falls, both_first, setting_none, setting_more, setting_all, working_none, working_more, working_all}
use Rattle.kept.proofs.openness.retest.Invariants.{may, shuts, nothing}
use Rattle.kept.proofs.openness.retest.Goals as goal
use Rattle.kept.proofs.openness.retest.Goals.{In-loop-left}

-- the lowest of what is left
low : (c : In-loop-left) → count_trailing_zeros 64 c.loop-left.left < 64
low c = lowest_low c.args.word c.loop-left.left c.loop-left.invariant.0.walk c.loop-left-test.true

in_word : (c : In-loop-left) → bit c.args.word (count_trailing_zeros 64 c.loop-left.left) ≡ true
in_word c = lowest_in c.args.word c.loop-left.left c.loop-left.invariant.0.walk c.loop-left-test.true

pub loop-left-init : goal.loop-left-init
loop-left-init c =
    let n = net_of c.args.net.now in
    let s = c.args in (
      setting_none (may n s.counts.now) s.word s.able c.without-found.result c.ranges.word.fits c.without-found.ensures,
      working_none (shuts n s.counts.now s.word) nothing s.props.now s.word c.requires.4 (λ j e. both_first (bit s.word j) (not (may n s.counts.now j)) e),
    )

pub enabled-on-requires : goal.enabled-on-requires
enabled-on-requires c = (c.requires.3 _ (in_word (goal.at.enabled-on-requires c).In-loop-left), c.requires.0, c.requires.1, c.requires.2)

pub shut-requires : goal.shut-requires
shut-requires c = (low (goal.at.shut-requires c).In-loop-left, c.loop-left.invariant.1.long)

pub joined-found-requires : goal.joined-found-requires
joined-found-requires c = low (goal.at.joined-found-requires c).In-loop-left

pub loop-left-smaller : goal.loop-left-smaller
loop-left-smaller c = falls c.args.word c.loop-left.left c.loop-left.invariant.0.walk c.loop-left-test.true

pub loop-left-preserved : goal.loop-left-preserved
loop-left-preserved c =
    let l = c.loop-left in
    let s = c.args in
    let n = net_of s.net.now in
    let t = count_trailing_zeros 64 l.left in
    let here = in_word (goal.at.loop-left-preserved c).In-loop-left in
    let of = may n s.counts.now in
    let is : c.enabled-on.result ≡ of t = c.enabled-on.ensures ∙ ap (enabled (readable n) (marking n.places s.counts.now)) (sym (transition_at n t (c.requires.3 t here))) in (
      setting_more of s.word s.able l.found l.left l.invariant.0 c.loop-left-test.true c.enabled-on.result is c.joined-found.result c.joined-found.ensures,
      working_more (shuts n s.counts.now s.word) nothing s.props.now s.word l.props l.left l.invariant.1 l.invariant.0.walk c.loop-left-test.true _ c.shut.ensures.0
          (λ k. c.shut.ensures.1 k ∙ (λ u. pick (eqb k t && (sym here u && not (is u))) zero64 (get_or l.props k nan))),
    )

pub returns : goal.returns
returns c =
    let l = c.loop-left in
    let s = c.args in
    let n = net_of s.net.now in (
      setting_all (may n s.counts.now) s.word s.able l.found l.left l.invariant.0 c.loop-left-test.false,
      working_all (shuts n s.counts.now s.word) nothing s.props.now l.props l.left l.invariant.1 c.loop-left-test.false,
    )
