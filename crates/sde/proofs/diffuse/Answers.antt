-- Turned down by its tests, or run (proofs/Tested, by_tests). Assumes nothing.
use Rattle.std.proofs.Common.{◌∙◌}
use Rattle.net.specs.Record.{net_of}
use Rattle.net.proofs.Sound.{sound}
use Rattle.averages.specs.Request.{Request}
use Rattle.averages.specs.Tables.{Tables}
use Rattle.sde.proofs.Tested.{by_tests, accepting}
use Rattle.sde.proofs.diffuse.Goals as goal

pub returns-in-Err : goal.returns-in-Err
returns-in-Err c =
    let g = c.args in
    let q : Request = record { samples = g.samples; realizations = g.realizations; seed = g.seed; horizon = g.horizon } in
    let t : Tables = record { mean = g.mean.now; deviation = g.deviation.now; path = g.path.now } in
    by_tests (net_of g.net.now) q t c.in-Err.ensures

pub accepted-requires : goal.accepted-requires
accepted-requires c =
    let g = c.args in
    let n = net_of g.net.now in
    let q : Request = record { samples = g.samples; realizations = g.realizations; seed = g.seed; horizon = g.horizon } in
    let k = accepting n q _ _ _ c.in_default.ensures in
    (sound n k.no_fault, k.passes.two, k.passes.few, k.passes.one, k.passes.repeated, k.fits.in_mean, k.fits.in_deviation, k.fits.in_path)

pub returns : goal.returns
returns c =
    let g = c.args in
    let q : Request = record { samples = g.samples; realizations = g.realizations; seed = g.seed; horizon = g.horizon } in
    let t : Tables = record { mean = g.mean.now; deviation = g.deviation.now; path = g.path.now } in
    c.accepted.ensures ∙ by_tests (net_of g.net.now) q t c.in_default.ensures
