-- What the slots before a come to, with those that are left, is the whole (Valuing). Assumes nothing.
use Rattle.net.specs.Record.{net_of}
use Rattle.kept.proofs.Valuing.{Valuing}
use Rattle.kept.proofs.values.walked.Given as goal

abbrev pub invariant-loop-a : goal.invariant-loop-a
invariant-loop-a l = Valuing (net_of l.net) l.counts l.j l.x l.a
