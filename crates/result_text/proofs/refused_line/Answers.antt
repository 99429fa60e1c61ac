-- `refused_line` meets its contract: past the test the line fits, and its parts stand one behind the other.
use Prim.Native.Nat.{◌+◌, ◌≤◌}
use mathlib.Core.List.{◌++◌}
use lib.ListN.{length}
use Rattle.text.specs.Text.{Bytes, bytes}
use Rattle.text.specs.Numbers.{decimal_text}
use Rattle.text.proofs.Places.{within, behind, last_behind}
use Rattle.result_text.specs.Lines.{refused_line}
use Rattle.result_text.proofs.Lengths.{refused_length}
use Rattle.result_text.proofs.refused_line.Goals as goal

pub returns : goal.returns
returns c =
    let a = c.args in
    let out = a.out.now in
    let at = a.at in
    let fits = within _ _ c.has_room.ensures c.if-not-has_room.false in
    let long = refused_length a.number a.line c.decimal_length-n.ensures c.decimal_length-l.ensures in
    let room : at + length (refused_line a.number a.line) ≤ length out = rw long at fits in
    let w1 : Bytes = bytes "(refused " in
    let w2 : Bytes = w1 ++ decimal_text a.number in
    let w3 : Bytes = w2 ++ bytes " " in
    let s2 = behind out at w1 (decimal_text a.number) c.in_ok-a.ensures c.in_ok-b.ensures in
    let s3 = behind out at w2 (bytes " ") s2 c.in_ok-c.ensures in
    let s4 = behind out at w3 (decimal_text a.line) s3 c.in_ok-d.ensures in
    last_behind out at (w3 ++ decimal_text a.line) (bytes ")\n") room s4 c.put_bytes-3.ensures
