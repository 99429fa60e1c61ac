-- What is left to test of the instants, from instant i on, is the whole test. Assumes nothing.
use native.Mathlib.Omega.{arith}
use mathlib.Core.Path.{sym, ◌∙◌}
use Rattle.ssa.proofs.Accepted.{too_few, too_many, few_enough, instants_stop, instants_go, instants_end}
use Rattle.ssa.proofs.accept.instants_fit.Goals as goal

pub returns-then-n-eq0 : goal.returns-then-n-eq0
returns-then-n-eq0 c = too_few c.args.instants.now c.if-n-eq0.true

pub returns-then-n-gt-MOST_INSTANTS : goal.returns-then-n-gt-MOST_INSTANTS
returns-then-n-gt-MOST_INSTANTS c = too_many c.args.instants.now c.if-n-gt-MOST_INSTANTS.true

pub loop-i-init : goal.loop-i-init
loop-i-init c = few_enough c.args.instants.now (omega arith) c.if-n-gt-MOST_INSTANTS.false

pub returns-then-not-instant_fits : goal.returns-then-not-instant_fits
returns-then-not-instant_fits c =
    let l = c in
    instants_stop l.args.instants.now l.loop-i.i l.loop-i.low l.loop-i.invariant c.loop-i-test.true
    (sym c.instant_fits.ensures ∙ c.if-not-instant_fits.true)

pub loop-i-preserved : goal.loop-i-preserved
loop-i-preserved c =
    let l = c in
    instants_go l.args.instants.now l.loop-i.i l.loop-i.low l.loop-i.invariant c.loop-i-test.true
    (sym c.instant_fits.ensures ∙ c.if-not-instant_fits.false)

pub returns : goal.returns
returns c =
    let l = c in
    instants_end l.args.instants.now l.loop-i.i l.loop-i.low l.loop-i.invariant c.loop-i-test.false
