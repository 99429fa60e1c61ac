-- `result_line` meets its contract: past the test the line fits, and its parts stand one behind the other.
use Prim.Native.Nat.{◌+◌, ◌≤◌}
use mathlib.Core.List.{◌++◌}
use lib.ListN.{length}
use Rattle.text.specs.Text.{Bytes, bytes}
use Rattle.text.specs.Numbers.{decimal_text}
use Rattle.text.proofs.Places.{within, behind, last_behind}
use Rattle.result_text.specs.Lines.{result_line}
use Rattle.result_text.proofs.Lengths.{result_length}
use Rattle.result_text.proofs.result_line.Goals as goal

pub returns : goal.returns
returns c =
    let a = c.args in
    let out = a.out.now in
    let at = a.at in
    let fits = within _ _ c.has_room.ensures c.if-not-has_room.false in
    let long = result_length a.places a.samples a.realizations c.decimal_length-p.ensures c.decimal_length-s.ensures c.decimal_length-n.ensures in
    let room : at + length (result_line a.places a.samples a.realizations) ≤ length out = rw long at fits in
    let w1 : Bytes = bytes "(result " in
    let w2 : Bytes = w1 ++ decimal_text a.places in
    let w3 : Bytes = w2 ++ bytes " " in
    let w4 : Bytes = w3 ++ decimal_text a.samples in
    let w5 : Bytes = w4 ++ bytes " " in
    let s2 = behind out at w1 (decimal_text a.places) c.in_ok-a.ensures c.in_ok-b.ensures in
    let s3 = behind out at w2 (bytes " ") s2 c.in_ok-c.ensures in
    let s4 = behind out at w3 (decimal_text a.samples) s3 c.in_ok-d.ensures in
    let s5 = behind out at w4 (bytes " ") s4 c.in_ok-e.ensures in
    let s6 = behind out at w5 (decimal_text a.realizations) s5 c.in_ok-f.ensures in
    last_behind out at (w5 ++ decimal_text a.realizations) (bytes ")\n") room s6 c.put_bytes-4.ensures
