-- The loop adds what the timers before timer i took; with what is left it is the whole, and each took at most 16,000,000 (Changed).
use native.Mathlib.Omega.{arith}
use Rattle.ssa.proofs.Changed.{adding_none, adding_all, adding_few, adding_more}
use Rattle.ssa.proofs.change.taken.Goals as goal

pub loop-i-init : goal.loop-i-init
loop-i-init c = adding_none c.args.takens.now c.args.n c.requires.1

pub overflow_add-total : goal.overflow_add-total
overflow_add-total c =
    let l = c in
    let a = l.args in
    omega (arith, adding_few a.takens.now a.n l.loop-i.total l.loop-i.i l.loop-i.invariant l.requires.0 c.loop-i-test.true)

pub loop-i-preserved : goal.loop-i-preserved
loop-i-preserved c =
    let l = c in
    let a = l.args in
    adding_more a.takens.now a.n l.loop-i.total l.loop-i.i l.loop-i.invariant l.requires.0 c.loop-i-test.true

pub returns : goal.returns
returns c =
    let l = c in
    let a = l.args in
    (omega arith, adding_all a.takens.now a.n l.loop-i.total l.loop-i.i l.loop-i.invariant c.loop-i-test.false)
