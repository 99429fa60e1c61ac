-- 2^k less 1 has the bits below k. Assumes nothing.
use native.Mathlib.Omega.{arith}
use mathlib.Core.Path.{sym, ap, ◌∙◌}
use Prim.Native.Nat.{ℕ, ◌-◌, ◌<◌}
use lib.Dec.{ltb}
use lib.Pow.{pow_pos}
use Rattle.words.specs.Bits.{bit}
use Rattle.words.proofs.Bits.{bit_all, one_shifted}
use borrow.Author.Rules.{rules}
use Rattle.playing.proofs.run.all_of.Statement.{statement}
use Rattle.playing.proofs.run.all_of.Tie as tie

returns : tie.Need-returns-then-transitions-eq64
returns c = λ j. bit_all 64 j ∙ ap (ltb j) (sym c.if-transitions-eq64.true)

shl-result : tie.Need-overflow_shl-result
shl-result c = search rules

low : (c : tie.Else-transitions-eq64) → c.args.transitions < 64
low c = omega (arith, c.requires, c.if-transitions-eq64.false)

sub-result : tie.Need-overflow_sub-result
sub-result c = omega (arith, one_shifted c.args.transitions (low c), pow_pos c.args.transitions)

returns-2 : tie.Need-returns
returns-2 c =
    let k = c.args.transitions in
    λ j. ap (λ (x : ℕ). bit (x - 1) j) (one_shifted k (low c)) ∙ bit_all k j

pub all_of_spec : {M : Type 1} → statement M
all_of_spec =
    tie.close
    (tie.spec
    returns
    shl-result
    sub-result
    returns-2)
