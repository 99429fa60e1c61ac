-- `row_line` meets its contract: past the test the line fits, and its parts stand one behind the other.
use Prim.Native.Nat.{◌+◌, ◌≤◌}
use mathlib.Core.List.{◌++◌}
use lib.ListN.{length}
use Rattle.text.specs.Text.{bytes}
use Rattle.text.proofs.Places.{within, outside, unfitted, front_fits, behind, last_behind, fitted_not}
use Rattle.result_text.specs.Lines.{cells, row_line}
use Rattle.result_text.proofs.Lengths.{row_length}
use Rattle.result_text.proofs.Steps.{row_behind}
use Rattle.result_text.proofs.row_line.Goals as goal

pub returns-then-not-row_fits : goal.returns-then-not-row_fits
returns-then-not-row_fits c =
    let a = c.args in
    unfitted a.out.now a.at _ (row_line a.word.now a.label.now a.row.now) (row_length a.word.now a.label.now a.row.now)
    (outside _ _ c.row_fits.ensures c.if-not-row_fits.true)

pub returns-in_err-filled : goal.returns-in_err-filled
returns-in_err-filled c =
    let a = c.args in
    let out = a.out.now in
    let at = a.at in
    let fits = within _ _ c.row_fits.ensures c.if-not-row_fits.false in
    let room : at + length (row_line a.word.now a.label.now a.row.now) ≤ length out = rw (row_length a.word.now a.label.now a.row.now) at fits in
    let front = front_fits at (a.word.now ++ a.label.now ++ cells a.row.now) (bytes ")\n") room in
    let s2 = behind out at a.word.now a.label.now c.in_ok-first.ensures c.in_ok-named.ensures in
    absurd (fitted_not out at _ front (row_behind out at (a.word.now ++ a.label.now) a.row.now front s2 c.in_err-filled.ensures))

pub returns : goal.returns
returns c =
    let a = c.args in
    let out = a.out.now in
    let at = a.at in
    let fits = within _ _ c.row_fits.ensures c.if-not-row_fits.false in
    let room : at + length (row_line a.word.now a.label.now a.row.now) ≤ length out = rw (row_length a.word.now a.label.now a.row.now) at fits in
    let front = front_fits at (a.word.now ++ a.label.now ++ cells a.row.now) (bytes ")\n") room in
    let s2 = behind out at a.word.now a.label.now c.in_ok-first.ensures c.in_ok-named.ensures in
    let s3 = row_behind out at (a.word.now ++ a.label.now) a.row.now front s2 c.in_ok-filled.ensures in
    last_behind out at _ (bytes ")\n") room s3 c.put_bytes-3.ensures
