-- `slow_positive` is `root_of` at a pattern between zero and the infinity. A subnormal value is first moved up to 53 digits, which changes no number of units;
-- a normal value has them. Assumes nothing.
use Rattle.std.proofs.Common.{sym, ap, ◌∙◌, arith, rules}
use Rattle.root.specs.Root.{root_in}
use Rattle.root.proofs.Patterns.{Moved, moved, root_of_small, root_of_normal}
use Rattle.root.proofs.slow_positive.Statement.{statement}
use Rattle.root.proofs.slow_positive.Tie as tie

mv : (c : tie.Then-e-eq0) → Moved c.args.b c.requires.0 (omega arith)
mv c = moved c.args.b c.requires.0 (omega arith)

cast-s : tie.Need-overflow_cast-s
cast-s c = omega (arith, (mv c).few, (mv c).enough)

sub-s : tie.Need-overflow_sub-s
sub-s c = omega (arith, (mv c).few, (mv c).enough)

shl-slow-in : tie.Need-overflow_shl-b
shl-slow-in c = omega (arith, (mv c).few, (mv c).enough)

sub-slow-in : tie.Need-overflow_sub-s-then-e-eq0
sub-slow-in c = omega (arith, (mv c).few, (mv c).enough)

slow-in-requires : tie.Need-slow_in-requires
slow-in-requires c κs = ((mv c).long, (mv c).short, omega (arith, (mv c).few, (mv c).enough), omega (arith, (mv c).few, (mv c).enough))

returns : tie.Need-returns-then-e-eq0
returns c = c.slow_in.ensures ∙ ap root_in (mv c.before).same ∙ sym (root_of_small c.args.b c.requires.0 (omega arith))

add-slow-in : tie.Need-overflow_add-b
add-slow-in c = search rules

add-slow-in-2 : tie.Need-overflow_add-e
add-slow-in-2 c = search rules

slow-in-requires-2 : tie.Need-slow_in-requires-2
slow-in-requires-2 c κs = search rules

returns-2 : tie.Need-returns
returns-2 c = c.slow_in-2.ensures ∙ sym (root_of_normal c.args.b (omega arith) c.requires.1)

pub slow_positive_spec : {M : Type 1} → statement M
slow_positive_spec =
    tie.close
    (tie.spec
    cast-s
    sub-s
    shl-slow-in
    sub-slow-in
    slow-in-requires
    returns
    add-slow-in
    add-slow-in-2
    slow-in-requires-2
    returns-2)
