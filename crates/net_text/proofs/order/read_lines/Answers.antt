-- A line more (Turns).
use Rattle.net_text.proofs.Turns.{one_more}
use Rattle.net_text.proofs.order.read_lines.Goals as goal

pub loop-line-preserved : goal.loop-line-preserved
loop-line-preserved c =
    let cut = c.in-Some.ensures in
    one_more c.args.text.now c.loop-line.net c.loop-line.stage c.loop-line.left.now c.loop-line.number c.loop-line.invariant c.in-Some.line.now
    c.in-Some.rest.now cut.0 c.one_line.new.net c.in-Ok.next cut.1 c.in-Ok.ensures
