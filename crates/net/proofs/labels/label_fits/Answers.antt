-- By the length, and then by every byte. Assumes nothing.
use mathlib.Core.Path.{◌≡◌, sym}
use native.Mathlib.Omega.{arith}
use borrow.Author.Tests.{le-leb, eqb-false}
use lib.ListN.{length}
use Rattle.std.proofs.Common.{rules, tests}
use Rattle.std.proofs.lemmas.Iterator.{YieldsList-from_slice}
use Rattle.std.proofs.lemmas.Iterator.Search.{all_from_yields_List}
use Rattle.net.specs.Labels.{label_byte, every}
use Rattle.net.proofs.labels.label_fits.Goals as goal

pub returns : goal.returns
returns c =
    let l = c.args.label.now in
    let some = eqb-false (length l) 0 (sym c.if-is_empty.ensures) in
    let all : c.all.result ≡ every label_byte l = all_from_yields_List label_byte _ _ c.all.result c.all.ensures.ran (YieldsList-from_slice l c.iter.ensures.rest) (λ x b q k. search (rules, tests)) in
    simp (le-leb 1 (length l) (omega (arith, some)), le-leb (length l) 16 c.if-label-gt-MOST_BYTES.false) all
