-- No label has more than 16 bytes.
use Prim.Native.Nat.{ℕ, zero, suc}
use mathlib.Core.List.{List}
use Rattle.net.specs.Labels.{labels_from}
use Rattle.net.proofs.Naming.{label_short}
use Rattle.result_text.proofs.Bound.{Short}

pub labels_short : (label lengths : List ℕ) (p k : ℕ) → Short (labels_from label lengths p k)
labels_short label lengths p zero = tt
labels_short label lengths p (suc k) = (label_short label lengths p, labels_short label lengths (suc p) k)
