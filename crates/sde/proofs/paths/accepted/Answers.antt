-- What gates the net, or the paths with its rates tidied, the tables of changes, skips and ends and the width of a substep. Assumes nothing.
use Rattle.std.proofs.Common.{◌*◌, ap, ◌∙◌, arith}
use Rattle.net.specs.Record.{net_of}
use Rattle.sde.specs.Call.{tabulated}
use Rattle.sde.proofs.Rates.{rated, tidied_sound, members_made}
use Rattle.sde.proofs.Tested.{by_gated, by_free}
use Rattle.sde.proofs.paths.accepted.Goals as goal

pub returns-then-is_gated : goal.returns-then-is_gated
returns-then-is_gated c = by_gated c.gates_of-g.result _ c.gates_of-g.ensures c.is_gated.result c.is_gated.ensures _ _ c.if-is_gated.true

pub fill_changes-requires : goal.fill_changes-requires
fill_changes-requires c = tidied_sound (net_of c.args.net.now) c.fill_rates.new.rates c.fill_rates.ensures c.requires.0

pub invariant_of-run : goal.invariant_of-run
invariant_of-run c =
    let n = net_of c.args.net.now in
    let f = c.fill_rates in
    record {
      ready = record {
        sound = tidied_sound n f.new.rates f.ensures c.requires.0;
        prepared = record {
          of_rates = rated n f.new.rates f.ensures;
          of_changes = c.fill_changes.ensures;
          of_skips = c.fill_skips.ensures;
          of_ends = c.fill_ends.ensures;
        };
        some = omega (arith, c.requires.1);
        few = c.requires.2;
        rooted = c.sqrt.ensures.worked;
      };
    }

pub returns : goal.returns
returns c =
    let g = c.args in
    let n = net_of g.net.now in
    by_free c.gates_of-g.result _ c.gates_of-g.ensures c.is_gated.result c.is_gated.ensures _ _ c.if-is_gated.false
    (c.averaged.ensures
    ∙ ap (tabulated (n.places * g.samples) (record { mean = g.mean.now; deviation = g.deviation.now; path = g.path.now }))
    (members_made n c.fill_rates.new.rates c.fill_rates.ensures (record { samples = g.samples; realizations = g.realizations; seed = g.seed; horizon = g.horizon }) c.width-dt.ensures
    0 g.realizations))
