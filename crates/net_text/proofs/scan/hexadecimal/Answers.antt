-- A digit more, or none; i digits are below 16 ^ i (Hexadecimal).
use Rattle.std.proofs.Common.{arith, mod-lt}
use Rattle.net_text.proofs.Hexadecimal.{no_float, read_none, room, read_all, read_more, read_wrong}
use Rattle.net_text.proofs.scan.hexadecimal.Goals as goal

pub returns-in_err-digits : goal.returns-in_err-digits
returns-in_err-digits c = rw c.from_residual.ensures (no_float c.args.line.now c.in_err-digits.ensures.cases)

pub loop-b-init : goal.loop-b-init
loop-b-init c =
    let parts = c.in_ok-digits.ensures.cases in
    read_none c.args.line.now c.in_ok-digits.digits.now c.in_ok-digits.rest.now parts.1 parts.2

pub overflow_mul-bits : goal.overflow_mul-bits
overflow_mul-bits c =
    let long = c.in_ok-digits.ensures.cases.3 in
    omega (arith, room c.args.line.now c.in_ok-digits.digits.now c.in_ok-digits.rest.now _ _ _ c.loop-b.invariant long (omega arith))

pub overflow_add-bits : goal.overflow_add-bits
overflow_add-bits c =
    let long = c.in_ok-digits.ensures.cases.3 in
    omega (arith, mod-lt c.hex_digit-d.result {m = 16} (omega arith), room c.args.line.now c.in_ok-digits.digits.now c.in_ok-digits.rest.now _ _ _ c.loop-b.invariant long (omega arith))

pub loop-b-preserved : goal.loop-b-preserved
loop-b-preserved c =
    let long = c.in_ok-digits.ensures.cases.3 in
    read_more c.args.line.now c.in_ok-digits.digits.now c.in_ok-digits.rest.now _ _ _ c.loop-b.invariant long c.hex_digit-d.result (omega arith)
    c.hex_digit-d.ensures.is c.hex_digit-d.ensures.small

pub returns-then-strange : goal.returns-then-strange
returns-then-strange c =
    read_wrong c.args.line.now c.in_ok-digits.digits.now c.in_ok-digits.rest.now _ _ _ c.loop-b.invariant c.if-strange.true

pub returns : goal.returns
returns c =
    let long = c.in_ok-digits.ensures.cases.3 in
    read_all c.args.line.now c.in_ok-digits.digits.now c.in_ok-digits.rest.now _ _ _ c.loop-b.invariant long (omega arith) c.if-strange.false
