-- The tests in their order. A net without a fault has at most 32 places and a request that passes at most 1,024 samples, so their product fits.
use Rattle.std.proofs.Common.{◌≡◌, ℕ, ◌*◌, length, refl, sym}
use Rattle.std.proofs.Math.Option.{Option}
use Rattle.std.proofs.lemmas.Result.{err_from_is_err_and}
use Rattle.net.specs.declared.Net.{Net as NetRecord}
use Rattle.net.specs.Tests.{or_else}
use Rattle.net.specs.Readable.{fault}
use Rattle.net.specs.Record.{net_of}
use Rattle.net.proofs.Sound.{sound}
use Rattle.averages.specs.Request.{Request, request_fault, tables_fault}
use Rattle.averages.specs.Tables.{Tables, call_fault}
use Rattle.averages.proofs.Passes.{passing}
use Rattle.ssa.proofs.Accepted.{cells_fit}
use Rattle.ssa.proofs.averaging.call_fault.Goals as goal

fault_by : (n : NetRecord) (q : Request) (t : Tables) {a b c : Option ℕ} → fault n ≡ a → request_fault q ≡ b
    → tables_fault (n.places * q.samples) (length t.mean) (length t.deviation) (length t.path) ≡ c → call_fault n q t ≡ or_else a (or_else b c)
fault_by n q t x y z = λ i. or_else (x i) (or_else (y i) (z i))

pub returns-in_err-test_net : goal.returns-in_err-test_net
returns-in_err-test_net c =
    let a = c.args in
    let p = err_from_is_err_and c.from_residual.result c.from_residual.ensures.1 in
    rw (p.1, p.2) (sym (fault_by (net_of a.net.now) (record { samples = a.samples; realizations = a.realizations; seed = a.seed; horizon = a.horizon })
    (record { mean = a.mean.now; deviation = a.deviation.now; path = a.path.now }) (sym c.in_err-test_net.ensures) refl refl))

pub returns-in_err-request_fault : goal.returns-in_err-request_fault
returns-in_err-request_fault c =
    let a = c.args in
    let p = err_from_is_err_and c.from_residual-in_err-request_fault.result c.from_residual-in_err-request_fault.ensures.1 in
    rw (p.1, p.2) (sym (fault_by (net_of a.net.now) (record { samples = a.samples; realizations = a.realizations; seed = a.seed; horizon = a.horizon })
    (record { mean = a.mean.now; deviation = a.deviation.now; path = a.path.now }) (sym c.in_ok-test_net.ensures) (sym c.in_err-request_fault.ensures) refl))

pub overflow_mul-cells : goal.overflow_mul-cells
overflow_mul-cells c =
    let a = c.args in
    let q : Request = record { samples = a.samples; realizations = a.realizations; seed = a.seed; horizon = a.horizon } in
    record { fits = cells_fit _ _ (sound (net_of a.net.now) (sym c.in_ok-test_net.ensures)).places (passing q (sym c.in_ok-request_fault.ensures)).few }

pub returns : goal.returns
returns c =
    let a = c.args in
    sym (fault_by (net_of a.net.now) (record { samples = a.samples; realizations = a.realizations; seed = a.seed; horizon = a.horizon })
    (record { mean = a.mean.now; deviation = a.deviation.now; path = a.path.now }) (sym c.in_ok-test_net.ensures) (sym c.in_ok-request_fault.ensures) (sym c.tables_fault.ensures))
