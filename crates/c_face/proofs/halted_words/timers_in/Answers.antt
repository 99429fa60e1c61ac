-- The first i transitions are those of the words.
use borrow.Author.Rules.{rules}
use native.Mathlib.Omega.{arith}
use mathlib.Core.Path.{◌≡◌, refl, ◌∙◌}
use lib.ListN.{length, get_or, drop, length-drop}
use lib.Seq.{take_all}
use Rattle.carried.specs.Timers.{timers_in}
use Rattle.c_face.proofs.Parts.{holds_none, holds_more, holds_part}
use Rattle.c_face.proofs.halted_words.timers_in.Goals as goal

pub loop-i-init : goal.loop-i-init
loop-i-init c = holds_none 0 _ _ refl

pub loop-i-preserved : goal.loop-i-preserved
loop-i-preserved c = holds_more 0 c.loop-i.invariant c.loop-i-test.true refl

pub returns : goal.returns
returns c =
    let s = c.args in
    let ws = s.words.now in
    let ts = s.times.now in
    let ws-long : length ws ≡ 816 = search rules in
    let ts-long : length ts ≡ 257 = search rules in
    let a = c.copy_from_slice.ensures.after ∙ take_all 256 (drop 1 ts) (omega (arith, length-drop 1 ts)) in
    let w = holds_part 0 ws 48 c.loop-i.invariant c.loop-i-test.false (omega arith) in
    λ j. timers_in (a j) (w j) (c.copy_from_slice-2.ensures.after j) (get_or ws 41 0)
