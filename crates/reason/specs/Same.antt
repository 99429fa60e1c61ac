-- What the text tells of a net. Document 02, order 3: "For a net that isn't gated the text is empty. Two gated nets have equal texts exactly when their counts,
-- their bounded labels in the text's order and their delay mark are equal; prove this from the writing rules."
-- The theorems are proofs/Nets, empty-text and same-texts.
use Rattle.std.specs.Prelude.{◌≡◌, true, not, map, ◌↔◌}
use Rattle.std.proofs.Math.Option.{none}
use Rattle.net.specs.declared.Net.{Net as NetRecord}
use Rattle.net.specs.Labels.{label_at}
use Rattle.net.specs.Readable.{readable, fault}
use Rattle.net.specs.Tests.{empty}
use Rattle.gates.specs.Gated.{gates, gated}
use Rattle.reason.specs.Call.{reason_of}

-- of every net record: no byte exactly where nothing gates
abbrev pub EmptyText : Type 0
EmptyText = (n : NetRecord) → empty (reason_of n) ≡ not (gated (gates (readable n)))

-- the three counts, the bounded labels in place order, which is the text's, and the delay mark of two nets are equal
pub record SameParts (n m : NetRecord) : Type 0 where
  pub reads : (gates (readable n)).reads ≡ (gates (readable m)).reads
  pub inhibitors : (gates (readable n)).inhibitors ≡ (gates (readable m)).inhibitors
  pub non_kinetic : (gates (readable n)).non_kinetic ≡ (gates (readable m)).non_kinetic
  pub bounded : map (label_at n.label n.lengths) (gates (readable n)).bounded ≡ map (label_at m.label m.lengths) (gates (readable m)).bounded
  pub delayed : (gates (readable n)).delayed ≡ (gates (readable m)).delayed

-- of any two nets that are accepted and gated
abbrev pub SameTexts : Type 0
SameTexts = (n m : NetRecord) → fault n ≡ none → fault m ≡ none → gated (gates (readable n)) ≡ true → gated (gates (readable m)) ≡ true
    → (reason_of n ≡ reason_of m) ↔ SameParts n m
