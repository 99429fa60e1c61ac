-- Both calls are made of the net's fault and of the net that the rules see; the crate net has that neither depends on labels where 17 and 18 are
-- not in question. Assumes nothing.
use Prim.Native.Nat.{ℕ, ◌*◌}
use mathlib.Core.Path.{◌≡◌}
use mathlib.Core.Bool.{false}
use mathlib.Core.List.{List}
use lib.ListN.{length}
use lib.Ieee.{Float}
use Rattle.net.specs.declared.Net.{Net as NetRecord}
use Rattle.net.specs.Tests.{or_else}
use Rattle.net.specs.Readable.{fault, relabelled, by_label, LabelsApart}
use Rattle.net.proofs.Apart.{labels_apart}
use Rattle.rng.specs.State.{State as Generator}
use Rattle.averages.specs.Request.{Request, request_fault, tables_fault}
use Rattle.averages.specs.Tables.{Tables}
use Rattle.ssa.specs.Path as Path
use Rattle.ssa.specs.Ensemble as Ensemble
use Rattle.ssa.specs.Labels.{SameFigures}

module _ (n : NetRecord) (label lengths : List ℕ) where
  abbrev other : NetRecord
  other = relabelled n label lengths

  abbrev apart : LabelsApart n label lengths
  apart = labels_apart n label lengths

  module _ (e : by_label (fault n) ≡ false) (e' : by_label (fault other) ≡ false) where
    same_path : (g : Generator) (xs : List Float) (k : ℕ) (table : List Float) → Path.called other g xs k table ≡ Path.called n g xs k table
    unfolding Path.called
    same_path g xs k table = λ i. Path.unless_fault (apart.same_fault e e' i) g table (Path.after_net (apart.same_net i) g xs k table)

    same_ensemble : (q : Request) (t : Tables) → Ensemble.called other q t ≡ Ensemble.called n q t
    unfolding Ensemble.called
    same_ensemble q t =
        let later = or_else (request_fault q) (tables_fault (n.places * q.samples) (length t.mean) (length t.deviation) (length t.path)) in
        λ i.
        Ensemble.unless_fault (or_else (apart.same_fault e e' i) later) t
        (Ensemble.tabulated n.places q.samples t (Ensemble.members_from (apart.same_net i) q 0 q.realizations))

pub same_figures : (n : NetRecord) (label lengths : List ℕ) → SameFigures n label lengths
same_figures n label lengths = record { path = same_path n label lengths; ensemble = same_ensemble n label lengths }
