-- Labels do not touch a game. Document 02, order 1: "The figures match those of the text without labels". The theorem is proofs/Labels, same-answer.
use Rattle.std.specs.Prelude.{ℕ, ◌≡◌, false, List}
use Rattle.net.specs.declared.Net.{Net as NetRecord}
use Rattle.net.specs.Readable.{fault, relabelled, by_label}
use Rattle.game.specs.Call.{called}

-- any net record, and any other labels for it: where neither is refused by 17 or 18, every call answers the same
abbrev pub SameAnswer : NetRecord → List ℕ → List ℕ → Type 0
SameAnswer n label lengths =
    by_label (fault n) ≡ false → by_label (fault (relabelled n label lengths)) ≡ false
    → (sides : List ℕ) (p c turns : ℕ) → called (relabelled n label lengths) sides p c turns ≡ called n sides p c turns
