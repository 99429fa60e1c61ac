-- Each part is what its function says. Assumes nothing.
use Rattle.net.specs.Record.{net_of}
use Rattle.gates.proofs.Mask.{gates_all}
use Rattle.gates.proofs.gates_of.Goals as goal

pub returns : goal.returns
returns c =
    gates_all (net_of c.args.net.now) _ c.requires.places c.count.ensures c.count-2.ensures c.count-3.ensures c.bounded_mask.ensures c.any_timed.ensures
