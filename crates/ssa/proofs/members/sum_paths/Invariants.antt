-- The paths below k are added (proofs/Summing, SumsAt); a turn adds one more or ends it. Assumes nothing.
use lib.ListN.{length}
use Rattle.net.specs.Readable.{readable}
use Rattle.net.specs.Record.{net_of}
use Rattle.ssa.specs.Summing.{drawn}
use Rattle.ssa.proofs.Summing.{SumsAt}
use Rattle.ssa.proofs.members.sum_paths.Given as goal

abbrev pub invariant-loop-k : goal.invariant-loop-k
invariant-loop-k l =
    SumsAt (drawn (readable (net_of l.net)) l.seed l.instants l.steps) l.net.places (length l.instants) l.realizations l.k l.spent
    l.initial.mean l.mean l.initial.deviation l.deviation l.initial.path l.path
