-- Those that left the word are worked out again (Bitwise). Assumes nothing.
use mathlib.Core.Path.{◌≡◌}
use mathlib.Core.Bool.{true}
use lib.Count.{count_trailing_zeros}
use Rattle.words.specs.Bits.{bit}
use Rattle.net.specs.Record.{net_of}
use Rattle.kept.proofs.Bitwise.{walk_all, walk_more, lowest_in, falls, working_none, working_set, working_all}
use Rattle.kept.proofs.values.revalue.Invariants.{worth}
use Rattle.kept.proofs.values.revalue.Goals as goal
use Rattle.kept.proofs.values.revalue.Goals.{In-loop-left}

-- the lowest of what is left is in the word
in_word : (c : In-loop-left) → bit c.args.word (count_trailing_zeros 64 c.loop-left.left) ≡ true
in_word c = lowest_in c.args.word c.loop-left.left c.loop-left.invariant.0 c.loop-left-test.true

pub loop-left-init : goal.loop-left-init
loop-left-init c =
    let w = c.args.word in
    (walk_all w c.ranges.word.fits, working_none (bit w) (worth (net_of c.args.net.now) c.args.counts.now) c.args.props.now w c.requires.6 (λ j e. e))

pub value-x-requires : goal.value-x-requires
value-x-requires c = let r = c.requires in (r.5 _ (in_word (goal.at.value-x-requires c).In-loop-left), r.0, r.1, r.2, r.3, r.4)

pub loop-left-smaller : goal.loop-left-smaller
loop-left-smaller c = falls c.args.word c.loop-left.left c.loop-left.invariant.0 c.loop-left-test.true

pub loop-left-preserved : goal.loop-left-preserved
loop-left-preserved c =
    let w = c.args.word in
    let l = c.loop-left in
    let some = c.loop-left-test.true in (
      walk_more w l.left l.invariant.0 some,
      working_set (bit w) (worth (net_of c.args.net.now) c.args.counts.now) c.args.props.now w l.props l.left l.invariant.1 l.invariant.0 some (in_word (goal.at.loop-left-preserved c).In-loop-left) c.value-x.result
          c.value-x.ensures,
    )

pub returns : goal.returns
returns c =
    let l = c.loop-left in
    working_all (bit c.args.word) (worth (net_of c.args.net.now) c.args.counts.now) c.args.props.now l.props l.left l.invariant.1 c.loop-left-test.false
