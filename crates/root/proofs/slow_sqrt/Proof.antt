-- `slow_sqrt` is `root_of`. A NaN is known by x != x, and any other value is that of its own pattern: the zeros and the infinity are their own roots, what lies
-- between goes to `slow_positive`, and the rest is NaN. Assumes nothing.
use Rattle.std.proofs.Common.{◌≡◌, ℕ, T, sym, ap, ◌∙◌, subst, arith, rules}
use lib.Ieee.{binary64, of_bits, to_bits, fits}
use lib.Ieee.Bits.{of_bits-to_bits, to_bits-lt}
use Rattle.root.specs.Root.{root_of}
use Rattle.root.proofs.Patterns.{number_of_eq, root_of_nan, root_of_zero, root_of_minus_zero, root_of_infinity, root_of_rest, zero_over_zero}
use Rattle.root.proofs.slow_sqrt.Statement.{statement}
use Rattle.root.proofs.slow_sqrt.Tie as tie

held : (c : tie.Start) → T (fits binary64 c.args.x)
held c = subst T (sym c.well_formed.0.1) tt

-- x is the value of its own pattern
from_bits : (c : tie.Start) → of_bits binary64 (to_bits binary64 c.args.x) ≡ c.args.x
from_bits c = of_bits-to_bits binary64 c.args.x (held c)

-- a value whose pattern is one of those that are their own roots
itself : (c : tie.Start) (b : ℕ) → to_bits binary64 c.args.x ≡ b → root_of (of_bits binary64 b) ≡ of_bits binary64 b → c.args.x ≡ root_of c.args.x
itself c b h r = let k : c.args.x ≡ of_bits binary64 b = sym (from_bits c) ∙ ap (of_bits binary64) h in k ∙ sym r ∙ ap root_of (sym k)

returns : tie.Need-returns-then-x
returns c = root_of_nan c.args.x c.if-x.true

float-to-bits-b : tie.Need-float_to_bits-b
float-to-bits-b c = number_of_eq c.args.x c.if-x.false

returns-2 : tie.Need-returns-then-b-eq0
returns-2 c = itself c.before.before 0 c.if-b-eq0.true root_of_zero

slow-positive-requires : tie.Need-slow_positive-requires
slow-positive-requires c κs = search rules

returns-3 : tie.Need-returns-then-b-lt9218868437227405312
returns-3 c = c.slow_positive.ensures ∙ ap root_of (from_bits c.before.before.before.before)

returns-4 : tie.Need-returns-then-b-eq9218868437227405312
returns-4 c = itself c.before.before.before.before 0x7FF0_0000_0000_0000 c.if-b-eq9218868437227405312.true root_of_infinity

returns-5 : tie.Need-returns-then-b
returns-5 c = itself c.before.before.before.before.before 0x8000_0000_0000_0000 c.if-b.true root_of_minus_zero

returns-6 : tie.Need-returns
returns-6 c =
    let s = c.before.before.before.before.before in
    let b = to_bits binary64 s.args.x in
    let low = c.if-b-lt9218868437227405312.false in
    let other = c.if-b-eq9218868437227405312.false in
    zero_over_zero ∙ sym (root_of_rest b (omega arith) c.if-b.false (to_bits-lt binary64 s.args.x (held s))) ∙ ap root_of (from_bits s)

pub slow_sqrt_spec : {M : Type 1} → statement M
slow_sqrt_spec =
    tie.close
    (tie.spec
    returns
    float-to-bits-b
    returns-2
    slow-positive-requires
    returns-3
    returns-4
    returns-5
    returns-6)
