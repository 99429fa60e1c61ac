-- The loop writes the cells of one instant, place by place. Assumes nothing.
use mathlib.Core.Path.{subst, ◌≡◌}
use native.Mathlib.Nat.{mul-le-mul}
use Rattle.sde.specs.Arrays.{Column}
use Rattle.sde.proofs.Cells.{cell_in, column_none, column_more}
use native.Mathlib.Omega.{arith}
use Prim.Native.Nat.{ℕ}
use Rattle.sde.proofs.walk.show.Goals as goal

pub loop-p-init : goal.loop-p-init
loop-p-init c = column_none _ _ _ _

pub overflow_mul-table : goal.overflow_mul-table
overflow_mul-table c =
    let s = c.args in
    let e = cell_in c.loop-p.p s.i s.places s.n (omega arith) (omega arith) in
    omega (arith, e)

pub overflow_add-table : goal.overflow_add-table
overflow_add-table c =
    let s = c.args in
    let e = cell_in c.loop-p.p s.i s.places s.n (omega arith) (omega arith) in
    omega (arith, e)

pub offset_bounds-table-p : goal.offset_bounds-table-p
offset_bounds-table-p c =
    let s = c.args in
    let e = cell_in c.loop-p.p s.i s.places s.n (omega arith) (omega arith) in
    omega (arith, e, mul-le-mul c.requires.0 c.requires.2)

pub bounds-table-p : goal.bounds-table-p
bounds-table-p c =
    let s = c.args in
    let e = cell_in c.loop-p.p s.i s.places s.n (omega arith) (omega arith) in
    omega (arith, e, c.loop-p.invariant.long)

pub loop-p-preserved : goal.loop-p-preserved
loop-p-preserved c =
    let s = c.args in
    let e = cell_in c.loop-p.p s.i s.places s.n (omega arith) (omega arith) in
    column_more s.n s.i c.loop-p.p s.x.now s.table.now c.loop-p.table (omega arith) (omega (arith, e, c.loop-p.invariant.long)) c.loop-p.invariant

pub returns : goal.returns
returns c =
    let s = c.args in
    let e : c.loop-p.p ≡ s.places = omega arith in
    subst (λ (k : ℕ). Column s.n s.i k s.x.now s.table.now c.loop-p.table) e c.loop-p.invariant
