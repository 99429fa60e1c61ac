-- Labels do not touch a balance. Document 02, order 1: "The figures match those of the text without labels". The theorem is proofs/Labels, same-answer.
use Rattle.std.specs.Prelude.{ℕ, ◌≡◌, false, List}
use Rattle.net.specs.declared.Net.{Net as NetRecord}
use Rattle.net.specs.Readable.{fault, relabelled, by_label}
use Rattle.balance.specs.Call.{called}

-- any net record, and any other labels for it: where neither is refused by 17 or 18, every list of weights has the same answer
abbrev pub SameAnswer : NetRecord → List ℕ → List ℕ → Type 0
SameAnswer n label lengths =
    by_label (fault n) ≡ false → by_label (fault (relabelled n label lengths)) ≡ false
    → (ws : List ℕ) → called (relabelled n label lengths) ws ≡ called n ws
