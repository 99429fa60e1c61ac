-- `put_decimal` meets its contract: `has_room` tests what the definition tests, and `fill` places the digits, which are the decimal's.
use mathlib.Core.Path.{◌≡◌, sym}
use lib.ListN.{length}
use Rattle.text.specs.Numbers.{low_digits, decimal_text}
use Rattle.text.proofs.Places.{within, fitted}
use Rattle.text.proofs.Digits.{decimal_low}
use Rattle.text.proofs.put_decimal.Goals as goal

pub returns : goal.returns
returns c =
    let a = c.args in
    let w = decimal_text a.n in
    let long : c.decimal_length-count.result ≡ length w = c.decimal_length-count.ensures in
    let digits : low_digits 10 c.decimal_length-count.result a.n ≡ w = rw long (sym (decimal_low a.n)) in
    fitted a.out.now a.at _ w _ long (within _ _ c.has_room.ensures c.if-not-has_room.false) (rw digits at c.fill.ensures)
