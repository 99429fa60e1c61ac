-- `run` meets its contract: each case of the call's answer prints what the definition prints, and an averaged call keeps to the bounds of `result`.
use Rattle.std.proofs.Common.{◌≡◌, ◌∙◌, ◌≤◌, ◌*◌, length, ap, sym, subst, rules}
use Rattle.net.specs.declared.Net.{Net as NetRecord}
use Rattle.net.specs.Readable.{labels}
use Rattle.result_text.specs.Lines.{printed}
use Rattle.net_text.specs.Position.{run_of}
use Rattle.averages.specs.Request.{Request}
use Rattle.averages.specs.Tables.{Tables}
use Rattle.ssa.specs.Ensemble.{Call, call_of, called}
use Rattle.pathrun_text.specs.Pathrun.{tables, request, longest, table_cells, rows}
use Rattle.pathrun_text.specs.Printing.{in_front}
use Rattle.pathrun_text.proofs.Called.{as_lent, turned_down, stopped_run, averaged_run, bounds}
use Rattle.pathrun_text.proofs.run.Goals as goal

-- a call over the lent net is one over the net
of_net : {x : Call} {m n : NetRecord} (q : Request) (t : Tables) → m ≡ n → x ≡ called m q t → x ≡ called n q t
of_net q t e h = h ∙ ap (λ (n : NetRecord). called n q t) e

pub result-requires : goal.result-requires
result-requires c =
    let a = c.args in
    let e = c.ensemble-answer in
    let call : call_of e.result e.new.mean e.new.deviation e.new.path ≡ called a.net (request (run_of a.asked)) tables =
    as_lent a.net a.asked c.float_of.ensures c.table-mean.ensures c.table-deviation.ensures c.table-path.ensures (of_net _ _ c.lent-lent.ensures e.ensures) in
    let fits = bounds a.net a.asked e.result e.new.mean e.new.deviation e.new.path c.requires.1 call _ _ c.in-Averaged.is in
    subst (λ (n : NetRecord). (longest ≤ length a.out.now) × (n.places ≤ 32) × (a.asked.samples ≤ 1024) × (n.places * a.asked.samples ≤ table_cells) × (length e.new.mean ≡ table_cells) × (length e.new.deviation ≡ table_cells))
    (sym c.lent-lent.ensures)
    (c.requires.0, fits.0, fits.1, fits.2, search rules, search rules)

pub returns-in-TurnedDown : goal.returns-in-TurnedDown
returns-in-TurnedDown c =
    let a = c.args in
    let e = c.ensemble-answer in
    let call : call_of e.result e.new.mean e.new.deviation e.new.path ≡ called a.net (request (run_of a.asked)) tables =
    as_lent a.net a.asked c.float_of.ensures c.table-mean.ensures c.table-deviation.ensures c.table-path.ensures (of_net _ _ c.lent-lent.ensures e.ensures) in
    turned_down a.net a.asked e.result e.new.mean e.new.deviation e.new.path c.requires.1 call _ c.in-TurnedDown.is a.out.now c.number.ensures c.refused.ensures

pub returns-in-Stopped : goal.returns-in-Stopped
returns-in-Stopped c =
    let a = c.args in
    let e = c.ensemble-answer in
    let call : call_of e.result e.new.mean e.new.deviation e.new.path ≡ called a.net (request (run_of a.asked)) tables =
    as_lent a.net a.asked c.float_of.ensures c.table-mean.ensures c.table-deviation.ensures c.table-path.ensures (of_net _ _ c.lent-lent.ensures e.ensures) in
    stopped_run a.net a.asked e.result e.new.mean e.new.deviation e.new.path c.requires.1 call _ _ c.in-Stopped.is a.out.now c.number-in-Stopped.ensures c.refused-in-Stopped.ensures

pub returns-in-Averaged : goal.returns-in-Averaged
returns-in-Averaged c =
    let a = c.args in
    let e = c.ensemble-answer in
    let call : call_of e.result e.new.mean e.new.deviation e.new.path ≡ called a.net (request (run_of a.asked)) tables =
    as_lent a.net a.asked c.float_of.ensures c.table-mean.ensures c.table-deviation.ensures c.table-path.ensures (of_net _ _ c.lent-lent.ensures e.ensures) in
    averaged_run a.net a.asked e.result e.new.mean e.new.deviation e.new.path c.requires.1 call _ _ c.in-Averaged.is a.out.now
    (subst (λ (n : NetRecord). (c.result.new.out, c.result.result) ≡ in_front a.out.now (printed n.places a.asked.samples a.asked.realizations (labels n) (rows n.places a.asked.samples e.new.mean) (rows n.places a.asked.samples e.new.deviation)))
    c.lent-lent.ensures c.result.ensures)
