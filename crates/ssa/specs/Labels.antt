-- Labels do not touch a figure. Document 02, order 1: "The figures match those of the text without labels".
-- The theorem is proofs/Labels, same-figures.
use Rattle.std.specs.Prelude.{ℕ, ◌≡◌, false, List, Float}
use Rattle.net.specs.declared.Net.{Net as NetRecord}
use Rattle.net.specs.Readable.{fault, relabelled, by_label}
use Rattle.rng.specs.State.{State as Generator}
use Rattle.averages.specs.Request.{Request}
use Rattle.averages.specs.Tables.{Tables}
use Rattle.ssa.specs.Path as Path
use Rattle.ssa.specs.Ensemble as Ensemble

-- Any net record, and any other labels for it: where neither is refused by 17 or 18, every path call and every ensemble call answers the same, and
-- leaves the same in its tables.
pub record SameFigures (n : NetRecord) (label lengths : List ℕ) : Type 0 where
  pub path : by_label (fault n) ≡ false → by_label (fault (relabelled n label lengths)) ≡ false
      → (g : Generator) (xs : List Float) (k : ℕ) (table : List Float) → Path.called (relabelled n label lengths) g xs k table ≡ Path.called n g xs k table
  pub ensemble : by_label (fault n) ≡ false → by_label (fault (relabelled n label lengths)) ≡ false
      → (q : Request) (t : Tables) → Ensemble.called (relabelled n label lengths) q t ≡ Ensemble.called n q t
