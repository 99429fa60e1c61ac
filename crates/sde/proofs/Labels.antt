-- The call is made of the net's fault and of the net that the rules see; the crate net has that neither depends on labels where 17 and 18 are not in
-- question. Assumes nothing.
use Prim.Native.Nat.{ℕ, ◌*◌}
use mathlib.Core.Option.{Option}
use lib.ListN.{length}
use Rattle.net.specs.Net.{Net}
use Rattle.net.specs.Tests.{or_else}
use Rattle.net.specs.Readable.{LabelsApart}
use Rattle.net.proofs.Apart.{labels_apart}
use Rattle.averages.specs.Request.{Request, request_fault, tables_fault}
use Rattle.averages.specs.Tables.{Tables}
use Rattle.gates.specs.Gated.{gates, gated}
use Rattle.sde.specs.Call.{Call, members_from, tabulated, unless_fault, unless_gated, called}
use Rattle.sde.specs.Labels.{SameFigures}

-- the call of a net with so many places, this fault and this reading
abbrev called_by : ℕ → Request → Tables → Option ℕ → Net → Call
called_by places q t f m =
    unless_fault (or_else f (or_else (request_fault q) (tables_fault (places * q.samples) (length t.mean) (length t.deviation) (length t.path)))) t
    (unless_gated (gated (gates m)) (gates m) t (tabulated (places * q.samples) t (members_from m q 0 q.realizations)))

pub same_figures : SameFigures
unfolding called
same_figures n label lengths e e' q t =
    let apart : LabelsApart n label lengths = labels_apart n label lengths in
    λ i. called_by n.places q t (apart.same_fault e e' i) (apart.same_net i)
