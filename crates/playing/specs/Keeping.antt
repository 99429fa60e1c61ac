-- What a path carries from step to step beside its state, and the tables that a call makes once, in the words of the crates kept and engine. Document 02,
-- order 5; nothing here adds to the rules.
use Rattle.std.specs.Prelude.{ℕ, ◌≡◌, List, length, Float}
use Rattle.words.specs.Bits.{bit}
use Rattle.net.specs.declared.Net.{Net as NetRecord}
use Rattle.net.specs.Net.{Net, Marking, timed}
use Rattle.net.specs.Readable.{readable}
use Rattle.rules.specs.Index as Index
use Rattle.jump.specs.Summing.{Summed}
use Rattle.engine.specs.Guards.{Guards}
use Rattle.engine.specs.Traits.{Marks, takes_several}
use Rattle.kept.specs.Kept.{Kept, Marked, Rates, Ends}
use Rattle.playing.specs.declared.step.Keeping.{Keeping}

-- the tables: rates, the ends of kinetic slots, the index, and the words of the delayed transitions and of those that take several tokens kinetically
pub record Tables (n : NetRecord) (rates : List Float) (ends guards : List ℕ) (delayed several : ℕ) : Type 0 where
  pub rated : Rates n rates
  pub ended : Ends n ends
  pub index : Guards n guards
  pub waits : Marks n timed delayed
  pub heavies : Marks n takes_several several

-- what is carried, at the counts m
pub record Carried (n : NetRecord) (m : Marking) (k : Keeping) (props sums : List Float) : Type 0 where
  pub kept : Kept (readable n) m k.moved k.crossed k.able props
  pub marked : Marked (readable n) m k.moved k.crossed k.able k.marks
  pub summed : Summed n.transitions props sums k.a0
  pub long_props : length props ≡ 64
  pub long_sums : length sums ≡ 64

-- a delayed transition that is not in the word is not enabled
abbrev pub ShutBut : ℕ → Net → Marking → Type 0
ShutBut word n m = Index.ShutBut (bit word) n m
