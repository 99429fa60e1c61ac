-- Each answer is that of the tests before it (Accepted). A net without a fault has at most 32 places, so the product of places and instants fits.
use Rattle.std.proofs.Common.{refl, sym, ◌∙◌, le-leb}
use borrow.Author.Tests.{lt-leb}
use Rattle.std.proofs.lemmas.Result.{err_from_is_err_and}
use Rattle.net.specs.Record.{net_of}
use Rattle.net.proofs.Sound.{sound}
use Rattle.ssa.proofs.Accepted.{fitting, cells_fit, fault_by}
use Rattle.ssa.proofs.accept.call_fault.Goals as goal

pub returns-in_err-test_net : goal.returns-in_err-test_net
returns-in_err-test_net c =
    let a = c.args in
    let p = err_from_is_err_and c.from_residual.result c.from_residual.ensures.1 in
    rw (p.1, p.2) (sym (fault_by (net_of a.net.now) a.instants.now a.limit a.table.now (sym c.in_err-test_net.ensures) refl refl refl))

pub returns-then-not-instants_fit : goal.returns-then-not-instants_fit
returns-then-not-instants_fit c =
    let a = c.args in
    sym (fault_by (net_of a.net.now) a.instants.now a.limit a.table.now (sym c.in_ok-test_net.ensures) (sym c.instants_fit.ensures ∙ c.if-not-instants_fit.true) refl refl)

pub returns-then-not-limit_fits : goal.returns-then-not-limit_fits
returns-then-not-limit_fits c =
    let a = c.args in
    sym (fault_by (net_of a.net.now) a.instants.now a.limit a.table.now (sym c.in_ok-test_net.ensures) (sym c.instants_fit.ensures ∙ c.if-not-instants_fit.false)
    (sym c.limit_fits.ensures ∙ c.if-not-limit_fits.true) refl)

pub overflow_mul-net : goal.overflow_mul-net
overflow_mul-net c =
    record {
      fits = cells_fit _ _ (sound (net_of c.args.net.now) (sym c.in_ok-test_net.ensures)).places
          (fitting c.args.instants.now (sym c.instants_fit.ensures ∙ c.if-not-instants_fit.false)).few;
    }

pub returns-then-table-net : goal.returns-then-table-net
returns-then-table-net c =
    let a = c.args in
    sym (fault_by (net_of a.net.now) a.instants.now a.limit a.table.now (sym c.in_ok-test_net.ensures) (sym c.instants_fit.ensures ∙ c.if-not-instants_fit.false)
    (sym c.limit_fits.ensures ∙ c.if-not-limit_fits.false) (lt-leb _ _ c.if-table-net.true))

pub returns : goal.returns
returns c =
    let a = c.args in
    sym (fault_by (net_of a.net.now) a.instants.now a.limit a.table.now (sym c.in_ok-test_net.ensures) (sym c.instants_fit.ensures ∙ c.if-not-instants_fit.false)
    (sym c.limit_fits.ensures ∙ c.if-not-limit_fits.false) (le-leb _ _ c.if-table-net.false))
