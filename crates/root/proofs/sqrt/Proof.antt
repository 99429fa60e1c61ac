-- `sqrt` meets both clauses. A NaN is known by x != x. A normal value has its root from a guess that is judged nearest, or from `beside`; any other value goes to
-- `slow_sqrt`. The first clause then follows from the second by `root_is_nearest`. Assumes nothing.
use Rattle.std.proofs.Common.{◌≡◌, ℕ, ◌+◌, ◌*◌, ◌/◌, ◌%◌, ◌^◌, T, sym, refl, ◌∙◌, subst, arith, rules}
use lib.Ieee.{Float, binary64, to_bits, fits}
use Rattle.root.specs.Nearest.{SquareRoot}
use Rattle.root.specs.Root.{root_of}
use Rattle.root.specs.Whole.{NearestWhole}
use Rattle.root.proofs.Nearest.{root_is_nearest}
use Rattle.root.proofs.Patterns.{number_of_eq, root_of_nan, root_of_own}
use Rattle.root.proofs.sqrt.Statement.{statement}
use Rattle.root.proofs.sqrt.Tie as tie

held : (c : tie.Start) → T (fits binary64 c.args.x)
held c = subst T (sym c.well_formed.0.1) tt

-- what equals `root_of x` is nearest too
both : (c : tie.Start) {r : Float} → r ≡ root_of c.args.x → SquareRoot c.args.x r × (r ≡ root_of c.args.x)
both c e = (subst (λ (y : Float). SquareRoot c.args.x y) (sym e) (root_is_nearest c.args.x (held c)), e)

-- the pattern of x
abbrev pattern : tie.Start → ℕ
pattern c = to_bits binary64 c.args.x

-- what is judged, as `placed` and `beside` name it
judged_is : (c : tie.After-reduced-y)
    → c.reduced-y.result / 2 ^ 10 ≡ (pattern c.before.before.before.before % 2 ^ 52 + 2 ^ 52) * 2 ^ ((pattern c.before.before.before.before / 2 ^ 52 + 1021) % 2)
judged_is c = omega (arith, c.reduced-y.ensures)

returns : tie.Need-returns-then-x
returns c = both c.before (root_of_nan c.args.x c.if-x.true)

float-to-bits-b : tie.Need-float_to_bits-b
float-to-bits-b c = number_of_eq c.args.x c.if-x.false

reduced-requires : tie.Need-reduced-y-requires
reduced-requires c κs = search rules

guess-requires : tie.Need-guess-g-requires
guess-requires c κs = search rules

judged-requires : tie.Need-judged-requires
judged-requires c κs = search rules

add-placed : tie.Need-overflow_add-b
add-placed c = search rules

add-placed-2 : tie.Need-overflow_add-e
add-placed-2 c = search rules

placed-requires : tie.Need-placed-requires
placed-requires c κs =
    let g = c.before.before in
    (omega arith, omega arith, omega arith, omega arith, subst (λ (x : ℕ). NearestWhole (x * 2 ^ 52) g.guess-g.result) (judged_is g.before) (c.judged.ensures c.if-judged.true))

returns-2 : tie.Need-returns-then-judged
returns-2 c =
    let s = c.before.before.before.before.before.before.before.before in
    both s (c.placed.ensures ∙ root_of_own s.args.x (pattern s) (held s) refl (omega arith) (omega arith))

beside-requires : tie.Need-beside-requires
beside-requires c κs = (refl, omega arith, omega arith, judged_is c.before.before.before, c.guess-g.ensures)

returns-3 : tie.Need-returns-then-e-lt2047
returns-3 c = both c.before.before.before.before.before.before.before.before c.beside.ensures

slow-sqrt-requires : tie.Need-slow_sqrt-requires
slow-sqrt-requires c κs = search rules

returns-4 : tie.Need-returns
returns-4 c = both c.before.before.before c.slow_sqrt.ensures

pub sqrt_spec : {M : Type 1} → statement M
sqrt_spec =
    tie.close
    (tie.spec
    returns
    float-to-bits-b
    reduced-requires
    guess-requires
    judged-requires
    add-placed
    add-placed-2
    placed-requires
    returns-2
    beside-requires
    returns-3
    slow-sqrt-requires
    returns-4)
