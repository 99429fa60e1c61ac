-- A refused path leaves the sums alone; any other is added to both (proofs/Summing, turn-stops and turn-goes). Assumes nothing.
use borrow.Enum.Refused.{opened}
use native.Mathlib.Omega.{arith}
use mathlib.Core.Path.{refl}
use lib.ListN.{length}
use Rattle.net.specs.Readable.{readable}
use Rattle.net.specs.Record.{net_of}
use Rattle.rng.specs.Splitmix.{seeded}
use Rattle.averages.specs.Request.{seed_of}
use Rattle.ssa.specs.Summing.{drawn}
use Rattle.ssa.proofs.Accepted.{fitting, cells_fit}
use Rattle.ssa.proofs.Answered.{not_refused}
use Rattle.ssa.proofs.Summing.{one_by_spent_lem, turn_stops, turn_goes}
use Rattle.ssa.proofs.members.member_turn.Goals as goal

pub returns-in-Refused : goal.returns-in-Refused
returns-in-Refused c =
    let p = c.one_path-r in
    let a = c.args in
    let net = readable (net_of a.net.now) in
    let xs = a.instants.now in
    turn_stops a.net.now.places (length xs) a.spent (seeded (seed_of a.seed a.k)) a.mean.now a.mean.now a.deviation.now a.deviation.now a.path.now p.new.path p.result
    c.in-Refused.c (drawn net a.seed xs a.steps a.k) p.ensures c.in-Refused.is refl refl

pub overflow_mul-cells : goal.overflow_mul-cells
overflow_mul-cells c = record { fits = cells_fit _ _ c.requires.0.tidy.places (fitting c.args.instants.now c.requires.0.fit).few }

pub overflow_add-result : goal.overflow_add-result
overflow_add-result c = omega (arith, c.requires.2, c.one_if_spent.ensures, one_by_spent_lem c.one_path-r.result.end)

pub returns : goal.returns
returns c =
    let p = c.one_path-r in
    let a = c.args in
    let net = readable (net_of a.net.now) in
    let xs = a.instants.now in
    turn_goes a.net.now.places (length xs) a.spent (seeded (seed_of a.seed a.k)) a.mean.now c.add.new.sums a.deviation.now c.add_squares.new.squares a.path.now p.new.path p.result
    c.one_if_spent.result _ (drawn net a.seed xs a.steps a.k) p.ensures (not_refused p.result.end (opened c.in_default.in_default-own.keys2)) c.one_if_spent.ensures refl
    c.add.ensures c.add_squares.ensures
