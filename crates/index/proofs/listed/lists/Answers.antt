-- By the arm taken: an arc that is no put, a place without a bound, or what is put against what is taken. Assumes nothing.
use native.Mathlib.Omega.{arith}
use Prim.Native.Nat.{◌<◌}
use mathlib.Core.Path.{◌≡◌}
use lib.ListN.{get_or}
use Rattle.index.specs.Slots.{span}
use Rattle.index.proofs.Listing.{lists_arc, lists_free, lists_put}
use Rattle.index.proofs.listed.lists.Goals as goal

pub returns-then-k-ne-PUT : goal.returns-then-k-ne-PUT
returns-then-k-ne-PUT c =
    let s = c.args in
    lists_arc s.net.now.capacity.now (span s.net.now.kind.now s.net.now.place.now s.net.now.weight.now s.from s.end) _ _ c.if-k-ne-PUT.true

pub returns-then-q-eq0 : goal.returns-then-q-eq0
returns-then-q-eq0 c =
    let s = c.args in
    let free : get_or s.net.now.capacity.now (get_or s.net.now.place.now s.a 0) 0 ≡ 0 = omega (arith, c.if-q-eq0.true) in
    lists_free s.net.now.capacity.now (span s.net.now.kind.now s.net.now.place.now s.net.now.weight.now s.from s.end) _ _ c.if-k-ne-PUT.false free

pub returns : goal.returns
returns c =
    let s = c.args in
    let d = c.change_at-c.ensures in
    let bounded : 0 < get_or s.net.now.capacity.now (get_or s.net.now.place.now s.a 0) 0 = omega (arith, c.if-q-eq0.false) in
    lists_put s.net.now.capacity.now (span s.net.now.kind.now s.net.now.place.now s.net.now.weight.now s.from s.end) _ _ c.if-k-ne-PUT.false bounded _ _ d.1 d.0
