-- `equals_binomial` is `exact`. A NaN is known by x != x, and any other value is that of its own pattern: `normal_equals_binomial` decides a normal one, and
-- no other is a whole number above 0. Assumes nothing.
use borrow.Author.Rules.{rules}
use mathlib.Core.Path.{◌≡◌, sym, ap, ◌∙◌, subst}
use mathlib.Core.Bool.{false}
use Prim.Native.Nat.{◌<◌}
use lib.Dec.{T}
use lib.Ieee.{Float, binary64, of_bits, to_bits, fits, eq}
use lib.Ieee.Bits.{of_bits-to_bits, to_bits-lt}
use Rattle.combinations.specs.Binomial.{binomial, whole, exact}
use Rattle.combinations.proofs.Binomial.{binomial_pos}
use Rattle.combinations.proofs.Patterns.{number_of_eq, nan_none, small_none, rest_none}
use Rattle.combinations.proofs.whole.equals_binomial.Statement.{statement}
use Rattle.combinations.proofs.whole.equals_binomial.Tie as tie

held : (c : tie.Start) → T (fits binary64 c.args.x)
held c = subst T (sym c.well_formed.0.1) tt

-- x is the value of its own pattern
from_bits : (c : tie.Start) → of_bits binary64 (to_bits binary64 c.args.x) ≡ c.args.x
from_bits c = of_bits-to_bits binary64 c.args.x (held c)

some : (c : tie.Start) → 0 < binomial c.args.m c.args.w
some c = binomial_pos c.args.m c.args.w c.requires.1

-- what holds of its pattern holds of x
none : (c : tie.Start) → eq (of_bits binary64 (to_bits binary64 c.args.x)) (whole (binomial c.args.m c.args.w)) ≡ false → false ≡ exact c.args.x c.args.m c.args.w
none c e = sym e ∙ ap (λ (v : Float). exact v c.args.m c.args.w) (from_bits c)

returns : tie.Need-returns-then-x
returns c = sym (nan_none c.args.x (binomial c.args.m c.args.w) c.if-x.true)

float-to-bits-b : tie.Need-float_to_bits-b
float-to-bits-b c = number_of_eq c.args.x c.if-x.false

returns-2 : tie.Need-returns-then-b-lt4503599627370496
returns-2 c = let s = c.before.before in none s (small_none (to_bits binary64 s.args.x) (binomial s.args.m s.args.w) c.if-b-lt4503599627370496.true (some s))

returns-3 : tie.Need-returns-then-b-ge9218868437227405312
returns-3 c =
    let s = c.before.before.before in
    none s (rest_none (to_bits binary64 s.args.x) (binomial s.args.m s.args.w) c.if-b-ge9218868437227405312.true (to_bits-lt binary64 s.args.x (held s)) (some s))

normal-equals-binomial-requires : tie.Need-normal_equals_binomial-requires
normal-equals-binomial-requires c κs = search rules

returns-4 : tie.Need-returns
returns-4 c =
    let s = c.before.before.before.before in
    c.normal_equals_binomial.ensures ∙ ap (λ (v : Float). exact v s.args.m s.args.w) (from_bits s)

pub equals_binomial_spec : {M : Type 1} → statement M
equals_binomial_spec =
    tie.close
    (tie.spec
    returns
    float-to-bits-b
    returns-2
    returns-3
    normal-equals-binomial-requires
    returns-4)
