-- Cell c is filled, and the others stay. Assumes nothing.
use Rattle.std.proofs.Common.{ℕ, ◌*◌, ◌/◌, ◌%◌, arith}
use Rattle.sde.specs.Slots.{Skip}
use Rattle.sde.proofs.Skips.{skips_more}
use Rattle.sde.proofs.change.fill_skips.Goals as goal

pub loop-c-preserved : goal.loop-c-preserved
loop-c-preserved c =
    let g = c.args in
    skips_more (λ (b q : ℕ). Skip g.places (32 * (b / 33)) g.changes.now (b % 33) q) c.loop-c.skips c.loop-c.c c.next_changed.result
    (omega arith) c.next_changed.ensures c.loop-c.invariant
