-- The sums start from cleared cells; what is made of them is the answer (proofs/Summing, stopped_call and finished-call). Assumes nothing.
use Prim.Native.Nat.{◌*◌}
use lib.ListN.{length}
use Rattle.net.specs.Readable.{readable}
use Rattle.net.specs.Record.{net_of}
use Rattle.ssa.specs.Summing.{drawn, paths_from}
use Rattle.ssa.proofs.Summing.{cleared_once, stopped_call, finished_call}
use Rattle.ssa.proofs.averaging.averaged.Goals as goal

pub sum_paths-requires : goal.sum_paths-requires
sum_paths-requires c =
    let m = c.clear in
    let d = c.clear-2 in
    let s = c in
    let a = s.args in
    let cells = a.net.now.places * length a.instants.now in (
      s.requires.0,
      s.requires.1,
      s.requires.4,
      cleared_once cells a.mean.now m.new.table m.ensures,
      cleared_once cells a.deviation.now d.new.table d.ensures,
    )

pub returns-in-Err : goal.returns-in-Err
returns-in-Err c =
    let p = c.sum_paths in
    let m = c.clear in
    let d = c.clear-2 in
    let a = c.args in
    let net = readable (net_of a.net.now) in
    stopped_call (paths_from (drawn net a.seed a.instants.now a.steps) 0 a.realizations) a.net.now.places (length a.instants.now) a.realizations a.mean.now a.deviation.now a.path.now
    m.new.table d.new.table p.new.mean p.new.deviation p.new.path m.ensures d.ensures
    _ _ c.clear-in-Err.new.table c.clear-in-Err-2.new.table p.result c.in-Err.is p.ensures c.clear-in-Err.ensures c.clear-in-Err-2.ensures

pub returns-in-Ok : goal.returns-in-Ok
returns-in-Ok c =
    let f = c.finish-deviates in
    let p = c.sum_paths in
    let m = c.clear in
    let d = c.clear-2 in
    let s = c in
    let a = s.args in
    let net = readable (net_of a.net.now) in
    finished_call (paths_from (drawn net a.seed a.instants.now a.steps) 0 a.realizations) a.net.now.places (length a.instants.now) a.realizations a.mean.now a.deviation.now a.path.now
    m.new.table d.new.table p.new.mean p.new.deviation p.new.path m.ensures d.ensures
    _ f.result f.new.mean f.new.deviation p.result c.in-Ok.is s.requires.3 p.ensures f.ensures.0 f.ensures.1 f.ensures.2
