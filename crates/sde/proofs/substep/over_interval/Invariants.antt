-- The substeps that are left, from the state so far, come to the whole. Assumes nothing.
use Rattle.std.proofs.Common.{◌≡◌, ◌-◌}
use Rattle.net.specs.Record.{net_of}
use Rattle.net.specs.Readable.{readable}
use Rattle.sde.specs.Diffusion.{substep, repeated, over_interval}
use Rattle.sde.specs.Arrays.{state_of}
use Rattle.sde.proofs.substep.over_interval.Given as goal

abbrev pub invariant-loop-i : goal.invariant-loop-i
invariant-loop-i l =
    let n = net_of l.run.net in
    repeated (20 - l._i) (substep (readable n) l.run.dt) (state_of n.places l.state) ≡ over_interval (readable n) l.run.dt (state_of n.places l.initial.state)
