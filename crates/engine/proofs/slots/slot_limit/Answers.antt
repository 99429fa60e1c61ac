-- A slot that is no put has the limit of its arc, and one at a place without a capacity none. For any other put, the parts that the code works out are those of
-- the definition (Limits, limit-free and limit-made). Assumes nothing.
use borrow.Author.Tests.{ne_eqb}
use Rattle.net.specs.Record.{net_of}
use Rattle.engine.proofs.Limits.{limit_made, limit_free}
use Rattle.engine.proofs.slots.slot_limit.Goals as goal

pub returns-then-k-ne-PUT : goal.returns-then-k-ne-PUT
returns-then-k-ne-PUT c = simp (ne_eqb _ _ c.if-k-ne-PUT.true, c.arc_limit.ensures)

pub returns-then-q-eq0 : goal.returns-then-q-eq0
returns-then-q-eq0 c = limit_free (net_of c.args.net.now) c.args.a c.requires.1 c.if-k-ne-PUT.false c.if-q-eq0.true

pub returns : goal.returns
returns c = limit_made (net_of c.args.net.now) c.args.a c.requires.1 c.if-k-ne-PUT.false c.room_limit.ensures c.change_at.ensures.0 c.change_at.ensures.1
