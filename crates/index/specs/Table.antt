-- What the table of the index says. Document 02, order 5: "Each call makes an index from the net, never handed in". A set of transitions is a word, in which
-- bit j stands for transition j; `listed` is that of the crate rules.
use Rattle.std.specs.Prelude.{ℕ, ◌≡◌, List, length, get_or, Result, Ok, Err}
use Rattle.refusals.specs.Number.{number_of}
use Rattle.refusals.specs.declared.Refusal.{Refusal as RefusalEnum}
use Rattle.std.proofs.Math.Option.{Option, none, some}
use Rattle.words.specs.Bits.{bit}
use Rattle.net.specs.Net.{Net}
use Rattle.rules.specs.Index.{listed}

-- By place: "the index lists exactly those transitions". Of any two numbers p and j, bit j of word p is set exactly where transition j is listed for place p.
-- No transition is listed for a place that there is not, so its word is 0.
pub record Lists (n : Net) (words : List ℕ) : Type 0 where
  pub long : length words ≡ 32
  pub says : (p j : ℕ) → bit (get_or words p 0) j ≡ listed n p j

-- The answer of index_of, by the net's fault, and the table before and after the call: of a net that is accepted it holds the index by place; a net that is
-- turned down leaves it as it was.
abbrev pub Answered : Option ℕ → Net → List ℕ → List ℕ → Result Unit RefusalEnum → Type 0
Answered fault n before after (Ok _) = (fault ≡ none) × Lists n after
Answered fault n before after (Err c) = (fault ≡ some (number_of c)) × (after ≡ before)
