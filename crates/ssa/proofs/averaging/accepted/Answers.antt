-- The net with its slots in order reads as the net. Assumes nothing.
use Rattle.std.proofs.Common.{◌≡◌, ℕ, ◌*◌, ◌^◌, ◌<◌, ◌≤◌, length, get_or, refl, sym, subst}
use Rattle.std.proofs.Math.Option.{none}
use Rattle.net.specs.declared.Net.{Net as NetRecord}
use Rattle.net.specs.Readable.{readable}
use Rattle.net.specs.Record.{net_of}
use Rattle.net.proofs.Sound.{sound}
use Rattle.averages.specs.Request.{Request, request_fault}
use Rattle.averages.specs.Tables.{Tables}
use Rattle.engine.specs.Engine.{Tidy}
use Rattle.ssa.proofs.Requested.{same_ensemble}
use Rattle.ssa.proofs.averaging.accepted.Goals as goal

pub lent_ensemble-requires : goal.lent_ensemble-requires
lent_ensemble-requires c =
    let a = c.args in
    let q : Request = record { samples = a.samples; realizations = a.realizations; seed = a.seed; horizon = a.horizon } in
    let Asked : NetRecord → Type 0
    = λ n. Tidy n × ((p : ℕ) → p < n.places → get_or n.initial p 0 ≤ 2 ^ 53) × (request_fault q ≡ none)
    × (n.places * a.samples ≤ length a.mean.now) × (n.places * a.samples ≤ length a.deviation.now) × (n.places * a.samples ≤ length a.path.now) in
    subst Asked (sym c.of.ensures) (
      c.fill.ensures.tidy,
      (sound (net_of a.net.now) c.requires.0).initial,
      c.requires.1,
      c.requires.2,
      c.requires.3,
      c.requires.4,
    )

pub returns : goal.returns
returns c =
    let a = c.args in
    let q : Request = record { samples = a.samples; realizations = a.realizations; seed = a.seed; horizon = a.horizon } in
    let t : Tables = record { mean = a.mean.now; deviation = a.deviation.now; path = a.path.now } in
    let Same : NetRecord → Type 0 = λ n. (n.places ≡ a.net.now.places) × (readable n ≡ readable (net_of a.net.now)) in
    let s : Same (net_of c.of.result) = subst Same (sym c.of.ensures) (refl, c.fill.ensures.reads) in
    same_ensemble (net_of c.of.result) (net_of a.net.now) q t s.0 s.1 c.lent_ensemble.ensures
