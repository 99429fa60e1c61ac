-- The paths so far are in the sums, and with those that are left they are the whole. Assumes nothing.
use Rattle.std.proofs.Common.{◌*◌}
use Rattle.net.specs.Record.{net_of}
use Rattle.net.specs.Readable.{readable}
use Rattle.sde.specs.Summed.{path_of}
use Rattle.sde.proofs.Members.{Sums}
use Rattle.sde.proofs.paths.sum_paths.Given as goal

abbrev pub invariant-loop-k : goal.invariant-loop-k
invariant-loop-k l =
    Sums (path_of (readable (net_of l.run.net)) l.run.n l.run.dt l.seed) l.realizations (l.run.net.places * l.run.n) l.k l.initial.mean l.initial.deviation l.initial.path
    l.mean l.deviation l.path
