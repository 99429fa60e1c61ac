-- Labels do not touch a figure. Document 02, order 1: "The figures match those of the text without labels".
-- The theorem is proofs/Labels, same-figures.
use Rattle.std.specs.Prelude.{ℕ, ◌≡◌, false, List}
use Rattle.net.specs.declared.Net.{Net as NetRecord}
use Rattle.net.specs.Readable.{fault, relabelled, by_label}
use Rattle.averages.specs.Request.{Request}
use Rattle.averages.specs.Tables.{Tables}
use Rattle.sde.specs.Call.{called}

-- Any net record, and any other labels for it: where neither is refused by 17 or 18, every diffusion call answers the same, gated or not, and leaves
-- the same in its tables.
abbrev pub SameFigures : Type 0
SameFigures = (n : NetRecord) (label lengths : List ℕ) → by_label (fault n) ≡ false → by_label (fault (relabelled n label lengths)) ≡ false
    → (q : Request) (t : Tables) → called (relabelled n label lengths) q t ≡ called n q t
