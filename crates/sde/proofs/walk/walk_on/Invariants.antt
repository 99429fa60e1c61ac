-- The instants so far are shown, and the intervals that are left, from the state so far, come to the whole. Assumes nothing.
use Rattle.std.proofs.Common.{◌-◌, ◌∷◌, [], take}
use Rattle.net.specs.Record.{net_of}
use Rattle.net.specs.Readable.{readable}
use Rattle.sde.specs.Diffusion.{further, over_interval}
use Rattle.sde.specs.Arrays.{state_of, preceded}
use Rattle.sde.proofs.Cells.{Progress}
use Rattle.sde.proofs.walk.walk_on.Given as goal

abbrev pub invariant-loop-i : goal.invariant-loop-i
invariant-loop-i l =
    let n = net_of l.run.net in
    let left = over_interval (readable n) l.run.dt in
    Progress n.places l.run.n l.i (preceded (take n.places l.initial.state.x ∷ []) (further (l.run.n - 1) left (state_of n.places l.initial.state)))
    (further (l.run.n - l.i) left (state_of n.places l.state)) l.initial.table l.table
