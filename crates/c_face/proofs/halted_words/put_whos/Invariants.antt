-- The first k of them are put.
use mathlib.Core.Path.{◌≡◌}
use lib.ListN.{length}
use Rattle.c_face.specs.Layout.{Put}
use Rattle.c_face.proofs.halted_words.put_whos.Given as goal

abbrev pub invariant-loop-k : goal.invariant-loop-k
invariant-loop-k l = (length l.initial.words ≡ 816) × Put l.initial.words 48 l.whos l.k l.words
