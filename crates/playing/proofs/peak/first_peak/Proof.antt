-- The peak that is carried has the tokens of now, or no step is to come, or they come in with a start, or no timer starts (Raised). Assumes nothing.
use native.Mathlib.Omega.{arith}
use mathlib.Core.Path.{refl, sym, ◌∙◌}
use mathlib.Core.Bool.{true≢false}
use mathlib.Core.Logic.{inl, inr}
use Rattle.net.specs.declared.Net.{Net as NetRecord}
use Rattle.net.specs.Record.{net_of}
use Rattle.playing.proofs.Raised.{none_starts, one_starts}
use Rattle.playing.proofs.peak.first_peak.Statement.{statement}
use Rattle.playing.proofs.peak.first_peak.Tie as tie

abbrev net_at : tie.Start → NetRecord
net_at s =
    net_of s.args.net.now

returns : tie.Need-returns-then-many-most
returns c = (inl (omega (arith, c.requires.4, c.if-many-most.true)), λ out xs. refl)

returns-2 : tie.Need-returns-then-steps-eq0
returns-2 c = (inr (λ some. absurd (omega (arith, c.if-steps-eq0.true))), λ out xs. refl)

some-ready-requires : tie.Need-some_ready-requires
some-ready-requires c κs =
    let s = c.before.before.before.before in
    (s.requires.0, s.requires.2, s.requires.3.small)

returns-3 : tie.Need-returns-then-some_ready
returns-3 c =
    let r = c.before in
    let f = r.before.before.before in
    let s = f.before.before in
    let a = s.args in
    let w = a.s in (
      inl (omega (arith, s.requires.4)),
      one_starts a.room (net_at s) a.last a.steps a.counts.now a.ats.now a.owners.now w.timers w.clock w.rng.s
          s.requires.0 (omega (arith, f.if-steps-eq0.false)) r.if-s-last.true (sym r.some_ready.ensures ∙ c.if-some_ready.true)
          w.tokens w.peak s.requires.4 (omega (arith, f.if-many-most.false)),
    )

returns-4 : tie.Need-returns-else-some_ready
returns-4 c =
    let r = c.before in
    let s = r.before.before.before.before.before in
    let a = s.args in
    let w = a.s in (
      none_starts a.room (net_at s) a.last a.steps a.counts.now a.ats.now a.owners.now w.timers w.clock w.rng.s
          s.requires.1 s.requires.3 (sym r.some_ready.ensures ∙ c.if-some_ready.false) w.peak,
      λ out xs. refl,
    )

returns-5 : tie.Need-returns-else-s-last
returns-5 c = (inr (λ some below. absurd (true≢false (sym below ∙ c.if-s-last.false))), λ out xs. refl)

pub first_peak_spec : {M : Type 1} → statement M
first_peak_spec =
    tie.close
    (tie.spec
    returns
    returns-2
    some-ready-requires
    returns-3
    returns-4
    returns-5)
