-- The paths below k are added (proofs/Summing, SumsAt); a turn adds one more or ends it. The measure is what is left of them. Assumes nothing.
use native.Mathlib.Omega.{arith}
use lib.ListN.{length}
use Rattle.net.specs.Readable.{readable}
use Rattle.net.specs.Record.{net_of}
use Rattle.ssa.specs.Summing.{drawn}
use Rattle.ssa.proofs.Summing.{drawn_count, none_added, one_added, one_refused, all_added}
use Rattle.ssa.proofs.members.sum_paths.Goals as goal

pub loop-k-init : goal.loop-k-init
loop-k-init c =
    let s = c in
    let a = s.args in
    let net = readable (net_of a.net.now) in
    none_added (drawn net a.seed a.instants.now a.steps) a.net.now.places (length a.instants.now) a.realizations a.mean.now a.deviation.now a.path.now s.requires.3 s.requires.4

pub member_turn-requires : goal.member_turn-requires
member_turn-requires c =
    let l = c.loop-k.invariant in
    let s = c in
    (s.requires.0, omega (arith, s.requires.2, l.long_path), omega (arith, s.requires.1, l.few, c.loop-k-test.true))

pub returns-in-Err : goal.returns-in-Err
returns-in-Err c =
    let t = c.member_turn in
    let l = c.loop-k in
    let a = c.args in
    let net = readable (net_of a.net.now) in
    one_refused (drawn net a.seed a.instants.now a.steps) a.net.now.places (length a.instants.now) a.realizations a.mean.now a.deviation.now a.path.now
    l.k l.spent l.mean l.deviation l.path l.invariant c.loop-k-test.true
    c.in-Err.c t.new.mean t.new.deviation t.new.path t.result c.in-Err.is t.ensures

pub loop-k-preserved : goal.loop-k-preserved
loop-k-preserved c =
    let t = c.member_turn in
    let l = c.loop-k in
    let s = c in
    let a = s.args in
    let net = readable (net_of a.net.now) in
    one_added (drawn net a.seed a.instants.now a.steps) a.net.now.places (length a.instants.now) a.realizations a.mean.now a.deviation.now a.path.now
    l.k l.spent l.mean l.deviation l.path l.invariant c.loop-k-test.true
    c.in-Ok.s t.new.mean t.new.deviation t.new.path s.requires.2 (drawn_count net a.seed a.instants.now a.steps l.k) t.result c.in-Ok.is t.ensures

pub returns : goal.returns
returns c =
    let l = c.loop-k in
    let a = c.args in
    let net = readable (net_of a.net.now) in
    all_added (drawn net a.seed a.instants.now a.steps) a.net.now.places (length a.instants.now) a.realizations a.mean.now a.deviation.now a.path.now
    l.k l.spent l.mean l.deviation l.path l.invariant c.loop-k-test.false
