-- What sum_paths left, cleared where a path was refused, and else made into means and deviations. Assumes nothing.
use Rattle.std.proofs.Common.{◌*◌}
use Rattle.sde.proofs.Members.{call_stopped, call_averaged}
use Rattle.sde.proofs.paths.averaged.Goals as goal

pub returns-in-Err : goal.returns-in-Err
returns-in-Err c =
    let r = c.args.run.now in
    call_stopped (r.net.places * r.n) c.args.realizations _ _ _ _ _ c.requires.2 c.requires.3 c.requires.4 _ c.in-Err.ensures _ _ _ c.clear.ensures c.clear-in-Err.ensures c.clear-in-Err-2.ensures

pub returns : goal.returns
returns c =
    let r = c.args.run.now in
    let f = c.finish.ensures in
    call_averaged (r.net.places * r.n) c.args.realizations _ _ _ _ _ c.requires.2 c.requires.3 c.requires.4 _ c.in_default.ensures _ _ _ f.0 f.1 f.2
