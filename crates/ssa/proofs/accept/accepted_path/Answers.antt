-- The net with its slots in order reads as the net. Assumes nothing.
use Rattle.std.proofs.Common.{◌≡◌, ℕ, ◌*◌, ◌^◌, ◌<◌, ◌≤◌, true, length, get_or, sym, subst}
use Rattle.net.specs.declared.Net.{Net as NetRecord}
use Rattle.net.specs.Readable.{readable}
use Rattle.net.specs.Record.{net_of}
use Rattle.net.proofs.Sound.{sound}
use Rattle.rng.specs.State.{words}
use Rattle.rules.specs.Shown.{instants_fit, worked}
use Rattle.engine.specs.Engine.{Tidy}
use Rattle.ssa.specs.Path.{call_of, played}
use Rattle.ssa.proofs.Accepted.{same_run}
use Rattle.ssa.proofs.accept.accepted_path.Goals as goal

pub lent_path-requires : goal.lent_path-requires
lent_path-requires c =
    let a = c.args in
    let xs = a.instants.now in
    let Asked : NetRecord → Type 0
    = λ n. Tidy n × ((p : ℕ) → p < n.places → get_or n.initial p 0 ≤ 2 ^ 53) × (instants_fit xs ≡ true) × (n.places * length xs ≤ length a.table.now) in
    subst Asked (sym c.of.ensures) (c.fill.ensures.tidy, (sound (net_of a.net.now) c.requires.0).initial, c.requires.1, c.requires.2)

pub returns : goal.returns
returns c =
    let a = c.args in
    let xs = a.instants.now in
    let g = words a.generator.s in
    let Said : NetRecord → Type 0
    = λ n. call_of c.lent_path.result c.lent_path.new.table ≡ played n.places (length xs) g a.table.now (worked (readable n) g xs a.limit) in
    same_run a.net.now.places g xs a.limit a.table.now c.fill.ensures.reads (subst Said c.of.ensures c.lent_path.ensures)
