-- `beside` is `root_of`: a neighbour that is judged nearest is what `placed` asks for, and every other way out is `slow_sqrt`. Assumes nothing.
use Rattle.std.proofs.Common.{◌≡◌, ℕ, ◌+◌, ◌*◌, ◌/◌, ◌%◌, ◌^◌, T, sym, ◌∙◌, subst, arith, rules}
use Rattle.root.specs.Root.{root_in, root_of}
use Rattle.root.specs.Whole.{NearestWhole}
use Rattle.root.proofs.Patterns.{root_of_own}
use Rattle.root.proofs.beside.Statement.{statement}
use Rattle.root.proofs.beside.Tie as tie

-- a number that is judged nearest, as `placed` asks for it
asked : (c : tie.Start) (q : ℕ) → NearestWhole (c.args.n * 2 ^ 52) q
    → NearestWhole ((c.args.b % 2 ^ 52 + 2 ^ 52) * 2 ^ ((c.args.b / 2 ^ 52 + 1021) % 2) * 2 ^ 52) q
asked c q h = subst (λ (x : ℕ). NearestWhole (x * 2 ^ 52) q) c.requires.3 h

own : (c : tie.Start) → root_in ((c.args.b % 2 ^ 52 + 2 ^ 52) * 2 ^ (52 + (c.args.b / 2 ^ 52 + 1021))) ≡ root_of c.args.x
own c = root_of_own c.args.x c.args.b (subst T (sym c.well_formed.0.1) tt) c.requires.0 c.requires.1 c.requires.2

add-m : tie.Need-overflow_add-m
add-m c = search rules

add-v : tie.Need-overflow_add-v
add-v c = search rules

add-if1 : tie.Need-overflow_add-g
add-if1 c = search rules

add-judged : tie.Need-overflow_add-g-then-g-lt18014398509481984
add-judged c = search rules

judged-requires : tie.Need-judged-requires
judged-requires c κs = search rules

add-placed : tie.Need-overflow_add-g-then-judged
add-placed c = search rules

placed-requires : tie.Need-placed-requires
placed-requires c κs =
    let s = c.before.before.before in
    (omega arith, omega arith, omega arith, omega arith, asked s (s.args.g + 1) (c.judged.ensures c.if-judged.true))

returns : tie.Need-returns-then-judged
returns c = c.placed.ensures ∙ own c.before.before.before.before

judged-requires-2 : tie.Need-judged-requires-then-g-ge1
judged-requires-2 c κs = search rules

placed-requires-2 : tie.Need-placed-requires-then-judged-2
placed-requires-2 c κs =
    let s = c.before.before.before.before in
    (omega arith, omega arith, omega arith, omega arith, asked s _ (c.judged-then-g-ge1.ensures c.if-judged-2.true))

returns-2 : tie.Need-returns-then-judged-2
returns-2 c = c.placed-then-judged-2.ensures ∙ own c.before.before.before.before.before

slow-sqrt-requires : tie.Need-slow_sqrt-requires
slow-sqrt-requires c κs = search rules

returns-3 : tie.Need-returns
returns-3 c = search rules

pub beside_spec : {M : Type 1} → statement M
beside_spec =
    tie.close
    (tie.spec
    add-m
    add-v
    add-if1
    add-judged
    judged-requires
    add-placed
    placed-requires
    returns
    judged-requires-2
    placed-requires-2
    returns-2
    slow-sqrt-requires
    returns-3)
