-- The loop writes the cells of one instant, place by place (proofs/Cells, Column); the cast to a signed number keeps a count of at most 2 ^ 53.
use native.Mathlib.Nat.{mul-le-mul}
use lib.Dec.{T}
use lib.IntN.{ℤ}
use lib.ListN.{set}
use lib.Ieee.{Float, binary64, in_float, of_int}
use mir.Syntax.{w64}
use mir.Facts.{to_z_pos}
use Rattle.rng.proofs.Floats.{in_f64}
use Rattle.playing.proofs.Cells.{cell_in, Column, column_none, column_more, column_all}
use native.Mathlib.Omega.{arith}
use mathlib.Core.Path.{◌≡◌, ap, subst, subst⁻¹}
use Prim.Native.Nat.{ℕ, ◌+◌, ◌*◌}
use Rattle.playing.proofs.shown.fill_column.Goals as goal

pub loop-p-init : goal.loop-p-init
loop-p-init c = column_none _ _ _ _

pub overflow_cast-table : goal.overflow_cast-table
overflow_cast-table c = let l = c in omega (arith, l.requires.4.small l.loop-p.p)

pub int_to_float-table : goal.int_to_float-table
int_to_float-table c =
    let l = c in
    let h = l.requires.4.small l.loop-p.p in
    subst⁻¹ (λ (z : ℤ). T (in_float binary64 z)) (to_z_pos w64 (omega arith)) (in_f64 _ h)

pub overflow_mul-table : goal.overflow_mul-table
overflow_mul-table c =
    let l = c in
    let s = l.args in
    let e = cell_in l.loop-p.p s.i s.places s.n (omega arith) (omega arith) in
    omega (arith, e)

pub overflow_add-table : goal.overflow_add-table
overflow_add-table c =
    let l = c in
    let s = l.args in
    let e = cell_in l.loop-p.p s.i s.places s.n (omega arith) (omega arith) in
    omega (arith, e)

pub offset_bounds-table-p : goal.offset_bounds-table-p
offset_bounds-table-p c =
    let l = c in
    let s = l.args in
    let e = cell_in l.loop-p.p s.i s.places s.n (omega arith) (omega arith) in
    omega (arith, e, mul-le-mul l.requires.0 l.requires.2)

pub bounds-table-p : goal.bounds-table-p
bounds-table-p c =
    let l = c in
    let s = l.args in
    let e = cell_in l.loop-p.p s.i s.places s.n (omega arith) (omega arith) in
    omega (arith, e, l.loop-p.invariant.long)

pub loop-p-preserved : goal.loop-p-preserved
loop-p-preserved c =
    let l = c in
    let s = l.args in
    let e = cell_in l.loop-p.p s.i s.places s.n (omega arith) (omega arith) in
    let h = l.requires.4.small l.loop-p.p in
    subst⁻¹ (λ (v : Float). Column s.n s.i (l.loop-p.p + 1) s.counts.now s.table.now (set l.loop-p.table (l.loop-p.p * s.n + s.i) v))
    (ap (of_int binary64) (to_z_pos w64 (omega (arith, h))))
    (column_more s.n s.i l.loop-p.p s.counts.now s.table.now l.loop-p.table (omega arith) (omega (arith, e, l.loop-p.invariant.long)) l.loop-p.invariant)

pub returns : goal.returns
returns c =
    let l = c in
    let s = l.args in
    let e : l.loop-p.p ≡ s.places = omega arith in
    column_all s.places s.n s.i s.counts.now s.table.now l.loop-p.table (omega arith)
    (subst (λ (k : ℕ). Column s.n s.i k s.counts.now s.table.now l.loop-p.table) e l.loop-p.invariant)
