-- The first i transitions are those of the words.
use Prim.Native.Nat.{ℕ, ◌+◌}
use lib.ListN.{get_or}
use Rattle.c_face.proofs.Parts.{Holds}
use Rattle.c_face.proofs.halted_words.timers_in.Given as goal

abbrev pub invariant-loop-i : goal.invariant-loop-i
invariant-loop-i l = Holds 0 (λ (k : ℕ). get_or l.words (48 + k) 0) 256 l.whos l.i
