-- Words 32 to 35, one by one.
use borrow.Author.Rules.{rules}
use native.Mathlib.Omega.{arith}
use mathlib.Core.Path.{◌≡◌}
use lib.ListN.{length}
use lib.Seq.{drop-cons}
use Rattle.c_face.proofs.halted_words.generator_in.Goals as goal

pub returns : goal.returns
returns c =
    let ws = c.args.words.now in
    let long : length ws ≡ 816 = search rules in
    rw (drop-cons ws 32 0 (omega arith), drop-cons ws 33 0 (omega arith), drop-cons ws 34 0 (omega arith), drop-cons ws 35 0 (omega arith))
