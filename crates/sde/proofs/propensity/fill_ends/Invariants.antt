-- The cells below j are filled. Assumes nothing.
use Rattle.std.proofs.Common.{ℕ, ◌+◌, ◌*◌, ◌<◌, get_or}
use Rattle.sde.specs.Slots.{KineticEnd}
use Rattle.sde.proofs.propensity.fill_ends.Given as goal

abbrev pub invariant-loop-j : goal.invariant-loop-j
invariant-loop-j l = (b : ℕ) → b < l.j → KineticEnd l.net.kind.now (16 * b) (16 * b + get_or l.net.arcs.now b 0) (get_or l.ends b 0)
