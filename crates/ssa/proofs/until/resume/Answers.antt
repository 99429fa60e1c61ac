-- The net with its slots in order reads as the net, so a run over it is the net's. Assumes nothing.
use Rattle.std.proofs.Common.{◌≡◌, ℕ, ◌*◌, ◌<◌, ◌≤◌, length, drop, sym, ap, subst}
use Rattle.net.specs.declared.Net.{Net as NetRecord}
use Rattle.net.specs.Net.{Net}
use Rattle.net.specs.Readable.{readable}
use Rattle.net.specs.Record.{net_of}
use Rattle.rules.specs.Gillespie.{Accepted}
use Rattle.rules.specs.Shown.{last_of}
use Rattle.rules.specs.Step.{State}
use Rattle.rules.proofs.Accepted.{accepted}
use Rattle.rules.proofs.Play.{higher, play_within}
use Rattle.engine.specs.Engine.{Tidy}
use Rattle.playing.specs.Playing.{out_of, PlayedBy}
use Rattle.playing.specs.Stepping.{Resumes, state_of, tokens_of}
use Rattle.ssa.proofs.Resumed.{played_same}
use Rattle.ssa.proofs.until.resume.Goals as goal

pub lent_on-requires : goal.lent_on-requires
lent_on-requires c =
    let a = c.args in
    let xs = a.instants.now in
    let from : NetRecord → State = λ n. state_of n a.counts.now a.ats.now a.owners.now a.s.timers a.s.clock a.s.rng.s in
    let Asked : NetRecord → Type 0
    = λ n. Tidy n × Accepted (readable n) × Resumes a.counts.now a.ats.now a.owners.now a.s.timers a.s.clock × (0 < length xs) × (a.s.next ≤ length xs)
    × (length xs ≤ 1024) × (n.places * length xs ≤ length a.table.now) × (a.s.tokens ≡ tokens_of (from n)) in
    let h = c.requires in
    subst Asked (sym c.of.ensures)
    (c.fill.ensures.tidy, subst Accepted (sym c.fill.ensures.reads) (accepted (net_of a.net.now) h.0), h.1, h.2, h.3, h.4, h.5, h.6)

pub returns : goal.returns
returns c =
    let a = c.args in
    let xs = a.instants.now in
    let o = c.lent_on in
    let from : NetRecord → State = λ n. state_of n a.counts.now a.ats.now a.owners.now a.s.timers a.s.clock a.s.rng.s in
    let Said : NetRecord → Type 0
    = λ n. PlayedBy (higher a.s.peak (play_within (out_of a.halts) 256 (readable n) (last_of xs) a.steps (drop a.s.next xs) (from n))) n.places xs a.s.next a.table.now o.new.table
    (state_of n o.new.counts o.new.ats o.new.owners o.result.timers o.result.clock o.result.rng.s) o.result o.result.end in
    played_same
    (ap (λ (n : Net). higher a.s.peak (play_within (out_of a.halts) 256 n (last_of xs) a.steps (drop a.s.next xs) (from (net_of a.net.now)))) c.fill.ensures.reads)
    (subst Said c.of.ensures o.ensures)
