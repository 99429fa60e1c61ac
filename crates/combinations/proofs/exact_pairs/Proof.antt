-- `exact_pairs` is `exact`: what is left once the zeros at the end of m * (m - 1) are shifted out is its odd part (`stripped`), and that decides (`pairs_exact`).
-- Assumes nothing.
use borrow.Author.Rules.{rules}
use native.Mathlib.Nat.{mul-pos}
use native.Mathlib.Omega.{arith}
use Prim.Native.Nat.{ℕ, ◌-◌, ◌*◌}
use lib.Count.{count_trailing_zeros}
use Rattle.combinations.proofs.OddPart.{pairs_fit, pairs_exact}
use Rattle.combinations.proofs.Parts.{Stripped, stripped}
use Rattle.combinations.proofs.exact_pairs.Statement.{statement}
use Rattle.combinations.proofs.exact_pairs.Tie as tie

abbrev pairs : tie.Start → ℕ
pairs c = c.args.m * (c.args.m - 1)

apart : (c : tie.Start) → Stripped 64 (pairs c) (count_trailing_zeros 64 (pairs c))
apart c = let h = c.requires.0 in stripped 64 (pairs c) (mul-pos (omega arith) (omega arith)) (pairs_fit c.args.m c.requires.1)

sub-p : tie.Need-overflow_sub-p
sub-p c = search rules

mul-p : tie.Need-overflow_mul-p
mul-p c = omega (arith, pairs_fit c.args.m c.requires.1)

cast_t : tie.Need-overflow_cast-t
cast_t c = omega (arith, (apart c).few)

shr-result : tie.Need-overflow_shr-result
shr-result c = (apart c).few

returns : tie.Need-returns
returns c = pairs_exact c.args.m c.requires.0 c.requires.1 (count_trailing_zeros 64 (pairs c)) (apart c)

pub exact_pairs_spec : {M : Type 1} → statement M
exact_pairs_spec =
    tie.close
    (tie.spec
    sub-p
    mul-p
    cast_t
    shr-result
    returns)
