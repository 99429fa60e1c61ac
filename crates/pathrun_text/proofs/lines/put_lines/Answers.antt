-- `put_lines` meets its contract. The invariant: what is left of the table, written from here, is the whole table written.
use native.Mathlib.Omega.{arith}
use mathlib.Core.Path.{ap, ◌∙◌}
use Prim.Native.Nat.{ℕ, ◌+◌, ◌-◌}
use Rattle.std.specs.Prelude.{Option, Some}
use Rattle.net.specs.Labels.{labels_from}
use Rattle.pathrun_text.specs.Pathrun.{rows}
use Rattle.pathrun_text.proofs.Rows.{left_turn, lines_turn, short}
use Rattle.pathrun_text.proofs.lines.put_lines.Goals as goal

pub loop-p-preserved : goal.loop-p-preserved
loop-p-preserved c =
    let l = c.loop-p in
    let a = c.args in
    let n = a.net.now in
    let split = c.split_at.ensures in (
      lines_turn n.label.now n.lengths.now a.deviates (l.out, Some l.end) _ n.places l.p a.samples c.label_of-named.result.now c.split_at.result.0.now l.rest.now c.split_at.result.1.now
          c.loop-p-test.true c.label_of-named.ensures split.front split.back c.in_ok-end.ensures
          ∙ l.invariant.0,
      omega (arith, left_turn n.places l.p a.samples c.loop-p-test.true, l.invariant.1, split.back_len),
    )

pub returns-in_err-end : goal.returns-in_err-end
returns-in_err-end c =
    let l = c.loop-p in
    let a = c.args in
    let n = a.net.now in
    let split = c.split_at.ensures in
    let left = n.places - (l.p + 1) in
    ap (λ (r : Option ℕ). (c.put_line.new.out, r)) c.from_residual.ensures
    ∙ short a.deviates c.put_line.new.out (labels_from n.label.now n.lengths.now (l.p + 1) left) (rows left a.samples c.split_at.result.1.now)
    ∙ lines_turn n.label.now n.lengths.now a.deviates (l.out, Some l.end) _ n.places l.p a.samples c.label_of-named.result.now c.split_at.result.0.now l.rest.now c.split_at.result.1.now
    c.loop-p-test.true c.label_of-named.ensures split.front split.back c.in_err-end.ensures
    ∙ l.invariant.0
