-- What is left to test of the timers, from number i and the time before it on, is the whole test. A time that does not fit, or is below the one before,
-- ends it.
use Rattle.std.proofs.Common.{sym, ◌∙◌, arith}
use native.Mathlib.Nat.{sub-zero}
use Rattle.carried.specs.Timers.{slot}
use Rattle.carried.proofs.Waiting.{from_next, from_none, no_time, fallen, later, all_on_time}
use Rattle.carried.proofs.state.completions_fit.Goals as goal

pub loop-i-init : goal.loop-i-init
loop-i-init c = λ whos takens. rw sub-zero

pub returns-then-not-time_fits : goal.returns-then-not-time_fits
returns-then-not-time_fits c =
    let l = c.loop-i in
    let s = c in
    λ whos takens.
    no_time l.last (l.invariant whos takens) (from_next (slot s.args.ats.now whos takens) l.i s.args.n s.requires (omega arith))
    (sym c.time_fits.ensures ∙ c.if-not-time_fits.true)

pub returns-then-at-last : goal.returns-then-at-last
returns-then-at-last c =
    let l = c.loop-i in
    let s = c in
    λ whos takens.
    fallen l.last (l.invariant whos takens) (from_next (slot s.args.ats.now whos takens) l.i s.args.n s.requires (omega arith)) c.if-at-last.true

pub loop-i-preserved : goal.loop-i-preserved
loop-i-preserved c =
    let l = c.loop-i in
    let s = c in
    λ whos takens.
    later l.last (l.invariant whos takens) (from_next (slot s.args.ats.now whos takens) l.i s.args.n s.requires (omega arith))
    (sym c.time_fits.ensures ∙ c.if-not-time_fits.false) c.if-at-last.false

pub returns : goal.returns
returns c =
    let l = c.loop-i in
    let s = c.args in
    λ whos takens. all_on_time l.last (l.invariant whos takens) (from_none (slot s.ats.now whos takens) l.i s.n (omega arith))
