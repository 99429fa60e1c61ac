-- The tests in their order. A net without a fault has at most 32 places and a request that passes at most 1,024 samples, so their product fits.
-- Assumes nothing.
use Rattle.std.proofs.Common.{◌*◌, sym, ◌∙◌}
use Rattle.std.proofs.lemmas.Result.{err_from_is_err_and}
use Rattle.net.specs.Tests.{or_else}
use Rattle.net.specs.Record.{net_of}
use Rattle.net.proofs.Sound.{sound}
use Rattle.averages.specs.Request.{Request, request_fault, tables_fault}
use Rattle.averages.proofs.Passes.{passing}
use Rattle.sde.proofs.Tested.{cells_fit}
use Rattle.sde.proofs.call_fault.Goals as goal

pub returns-in_err-test_net : goal.returns-in_err-test_net
returns-in_err-test_net c =
    let g = c.args in
    let q : Request = record { samples = g.samples; realizations = g.realizations; seed = g.seed; horizon = g.horizon } in
    let p = err_from_is_err_and c.from_residual.result c.from_residual.ensures.1 in
    rw (p.1, p.2) (λ i. or_else (c.in_err-test_net.ensures i) (or_else (request_fault q) (tables_fault (g.net.now.places * g.samples) g.mean g.deviation g.path)))

pub returns-in_err-request_fault : goal.returns-in_err-request_fault
returns-in_err-request_fault c =
    let g = c.args in
    let p = err_from_is_err_and c.from_residual-in_err-request_fault.result c.from_residual-in_err-request_fault.ensures.1 in
    rw (p.1, p.2) (λ i. or_else (c.in_ok-test_net.ensures i) (or_else (c.in_err-request_fault.ensures i) (tables_fault (g.net.now.places * g.samples) g.mean g.deviation g.path)))

pub overflow_mul-cells : goal.overflow_mul-cells
overflow_mul-cells c =
    let g = c.args in
    let q : Request = record { samples = g.samples; realizations = g.realizations; seed = g.seed; horizon = g.horizon } in
    record { fits = cells_fit _ _ (sound (net_of g.net.now) (sym c.in_ok-test_net.ensures)).places (passing q (sym c.in_ok-request_fault.ensures)).few }

pub returns : goal.returns
returns c =
    let g = c.args in
    c.tables_fault.ensures
    ∙ (λ i. or_else (c.in_ok-test_net.ensures i) (or_else (c.in_ok-request_fault.ensures i) (tables_fault (g.net.now.places * g.samples) g.mean g.deviation g.path)))
