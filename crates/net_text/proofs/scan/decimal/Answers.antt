-- However the loop is left, no digit stands in front of what is left (Decimals).
use Rattle.std.proofs.Common.{arith}
use Rattle.net_text.proofs.Decimals.{Stopped, stopped_end, stopped_below, stopped_above, reads}
use Rattle.net_text.proofs.scan.decimal.Goals as goal
use Rattle.net_text.proofs.scan.decimal.Goals.{in_default, in_default-2, in_default-3}

pub returns : goal.returns
returns c =
    let stop : Stopped c.loop-rest.rest.now =
    elim c.if-rest-lt1.branch [
      | in_default w ↦ stopped_end c.loop-rest.rest.now (omega arith)
      | in_default-2 w ↦ stopped_below c.loop-rest.rest.now w.in_default.len_at_least (omega arith)
      | in_default-3 w ↦ stopped_above c.loop-rest.rest.now w.in_default.len_at_least (omega arith)
    ] in
    reads c.args.line.now c.loop-rest.rest.now _ _ c.loop-rest.invariant stop c.if-n-eq0.false c.zero_leads.result c.zero_leads.ensures
