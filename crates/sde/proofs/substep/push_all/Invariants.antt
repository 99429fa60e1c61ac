-- The transitions that are left, from the state so far, come to the whole. Assumes nothing.
use Rattle.std.proofs.Common.{◌≡◌, ◌-◌}
use Rattle.net.specs.Record.{net_of}
use Rattle.net.specs.Readable.{transitions_from}
use Rattle.sde.specs.Diffusion.{pushed_all}
use Rattle.sde.specs.Arrays.{going_of}
use Rattle.sde.proofs.substep.push_all.Given as goal

abbrev pub invariant-loop-j : goal.invariant-loop-j
invariant-loop-j l =
    let n = net_of l.run.net in
    pushed_all l.run.dt (transitions_from n l.j (n.transitions - l.j)) (going_of n.places l.state)
    ≡ pushed_all l.run.dt (transitions_from n 0 n.transitions) (going_of n.places l.initial.state)
