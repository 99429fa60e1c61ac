-- The three tests on x are the definition's behind its first, in its order (`at_infinity` to `at_number`). What passes them is subnormal, and its parts are those of its
-- product with 2 ^ 52 (`parts_of_subnormal`).
use mathlib.Core.Path.{sym, ◌∙◌, subst}
use lib.Dec.{T}
use native.Mathlib.Omega.{arith}
use lib.Ieee.{binary64, mul, to_bits}
use lib.Ieee.Positive.{positive}
use Rattle.portable_log.specs.Log.{parts_of, two52}
use Rattle.portable_log.proofs.Laws.{inf_bits, minus_inf_bits, zero_over_zero, inf_is_no_nan, minus_inf_is_no_nan, no_nan, scaled_number, at_infinity, at_negative, at_zero, at_number, past_tests, scaled_lt, parts_of_subnormal}
use Rattle.portable_log.proofs.other_log.Goals as goal

pub float_from_bits-t-2 : goal.float_from_bits-t-2
float_from_bits-t-2 c = inf_is_no_nan

pub returns-then-x : goal.returns-then-x
returns-then-x c = at_infinity c.args.x c.requires.0 (rw inf_bits at c.if-x.true)

pub returns-then-x-2 : goal.returns-then-x-2
returns-then-x-2 c = zero_over_zero ∙ at_negative c.args.x c.requires.0 (rw inf_bits at c.if-x.false) c.if-x-2.true

pub float_from_bits-result : goal.float_from_bits-result
float_from_bits-result c = minus_inf_is_no_nan

pub returns-then-x-3 : goal.returns-then-x-3
returns-then-x-3 c = minus_inf_bits ∙ at_zero c.args.x c.requires.0 (rw inf_bits at c.if-x.false) c.if-x-2.false c.if-x-3.true

pub float_to_bits-x : goal.float_to_bits-x
float_to_bits-x c = scaled_number c.args.x (no_nan c.args.x c.requires.0)

pub scaled_log-requires : goal.scaled_log-requires
scaled_log-requires c =
    let x = c.args.x in
    let above : T (positive x) = past_tests x c.requires.0 (rw inf_bits at c.if-x.false) c.if-x-2.false c.if-x-3.false in
    (scaled_lt x above, omega arith)

pub returns : goal.returns
returns c =
    let x = c.args.x in
    let finite = rw inf_bits at c.if-x.false in
    let above : T (positive x) = past_tests x c.requires.0 finite c.if-x-2.false c.if-x-3.false in
    c.scaled_log.ensures
    ∙ at_number x (parts_of 52 (to_bits binary64 (mul binary64 x two52))) (parts_of_subnormal x (subst T (sym c.well_formed.0.1) tt) above c.requires.1)
    c.requires.0 finite c.if-x-2.false c.if-x-3.false
