-- Cell j is filled, and the others stay. Assumes nothing.
use Rattle.std.proofs.Common.{ℕ, ◌+◌, ◌*◌, get_or, arith}
use Rattle.sde.specs.Slots.{KineticEnd}
use Rattle.sde.proofs.Skips.{skips_more}
use Rattle.sde.proofs.propensity.fill_ends.Goals as goal

pub loop-j-preserved : goal.loop-j-preserved
loop-j-preserved c =
    let n = c.args.net.now in
    skips_more (λ (b e : ℕ). KineticEnd n.kind.now (16 * b) (16 * b + get_or n.arcs.now b 0) e) c.loop-j.ends c.loop-j.j c.kinetic_end.result
    (omega arith) c.kinetic_end.ensures c.loop-j.invariant
