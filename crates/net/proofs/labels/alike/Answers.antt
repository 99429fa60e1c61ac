-- Labels of other lengths are not the same. Assumes nothing.
use Rattle.std.proofs.Common.{length}
use Rattle.net.proofs.Naming.{differ}
use Rattle.net.proofs.labels.alike.Goals as goal

pub returns-then-n-b : goal.returns-then-n-b
returns-then-n-b c = differ length c.args.a.now c.args.b.now c.if-n-b.true
