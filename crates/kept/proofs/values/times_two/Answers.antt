-- Two takes of one token, one after the other. Assumes nothing.
use native.Mathlib.Omega.{arith}
use mathlib.Core.Path.{ap, ◌∙◌}
use Prim.Native.Nat.{◌+◌}
use lib.Ieee.{Float, binary64, mul}
use lib.ListN.{get_or}
use Rattle.rules.specs.Propensity.{ways}
use Rattle.kept.proofs.values.times_two.Goals as goal

pub offset_bounds-counts-p : goal.offset_bounds-counts-p
offset_bounds-counts-p c = omega (arith, c.requires.1 c.args.a)

pub bounds-counts-p : goal.bounds-counts-p
bounds-counts-p c = c.requires.1 c.args.a

pub times-y-requires : goal.times-y-requires
times-y-requires c =
    let r = c in
    (r.requires.2.small (get_or r.args.place.now r.args.a 0), λ e. omega arith)

pub offset_bounds-counts-q : goal.offset_bounds-counts-q
offset_bounds-counts-q c = let r = c in omega (arith, r.requires.1 (r.args.a + 1))

pub bounds-counts-q : goal.bounds-counts-q
bounds-counts-q c = let r = c in r.requires.1 (r.args.a + 1)

pub times-requires : goal.times-requires
times-requires c =
    let r = c in
    (r.requires.2.small (get_or r.args.place.now (r.args.a + 1) 0), λ e. omega arith)

pub returns : goal.returns
returns c =
    let r = c in
    c.times.ensures
    ∙ ap (λ (y : Float). mul binary64 y (ways (get_or r.args.counts.now (get_or r.args.place.now (r.args.a + 1) 0) 0) 1)) c.times-y.ensures
