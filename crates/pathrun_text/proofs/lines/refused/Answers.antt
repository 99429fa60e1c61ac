-- `refused` meets its contract: the line is at most 52 bytes, so it is written.
use native.Mathlib.Omega.{arith}
use mathlib.Core.Path.{refl}
use Prim.Native.Nat.{◌≤◌}
use lib.ListN.{length}
use Rattle.text.specs.Numbers.{decimal_text}
use Rattle.text.proofs.Digits.{decimal_short}
use Rattle.result_text.specs.Lines.{refused_line}
use Rattle.result_text.proofs.Lengths.{refused_length}
use Rattle.pathrun_text.proofs.Rows.{front_of}
use Rattle.pathrun_text.proofs.lines.refused.Goals as goal

pub returns : goal.returns
returns c =
    let a = c.args in
    let short : length (refused_line a.number a.line) ≤ length a.out.now =
    omega (
      arith,
      c.requires,
      refused_length a.number a.line {a = length (decimal_text a.number)} {b = length (decimal_text a.line)} refl refl,
      decimal_short a.number c.ranges.number.fits,
      decimal_short a.line c.ranges.line.fits,
    ) in
    front_of a.out.now (refused_line a.number a.line) short c.refused_line.ensures c.unwrap_or.ensures
