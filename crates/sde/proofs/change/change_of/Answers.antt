-- The cell's transition is one of the net's; its takes, then its puts. Assumes nothing.
use Rattle.std.proofs.Common.{◌/◌, ◌%◌, ◌<◌, arith}
use Rattle.net.specs.Record.{net_of}
use Rattle.gates.proofs.Arcs.{light}
use Rattle.sde.proofs.Changes.{change_made}
use Rattle.sde.proofs.change.change_of.Goals as goal

pub less_takes-d-requires : goal.less_takes-d-requires
less_takes-d-requires c =
    let s = c.requires.1 in
    let j = c.args.c / 32 in
    let h : j < c.args.net.now.transitions = omega (arith, c.requires.0) in
    (omega (arith, s.arcs j h, s.transitions, h), light (net_of c.args.net.now) s j h)

pub plus_puts-requires : goal.plus_puts-requires
plus_puts-requires c =
    let s = c.requires.1 in
    let j = c.args.c / 32 in
    let h : j < c.args.net.now.transitions = omega (arith, c.requires.0) in
    (omega (arith, s.arcs j h, s.transitions, h), light (net_of c.args.net.now) s j h)

pub returns : goal.returns
returns c = change_made (net_of c.args.net.now) (c.args.c / 32) (c.args.c % 32) c.less_takes-d.ensures c.plus_puts.ensures
