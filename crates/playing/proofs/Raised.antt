-- The tokens of a path that is carried in with a lower peak: where a delayed transition is enabled they come into the peak with its start. Where none
-- is, no timer starts in the next step, and its event is a moment (crate rules, proofs/Happening). Assumes nothing.
use Prim.Native.Nat.{ℕ, ◌≤◌, ◌<◌}
use mathlib.Core.Path.{◌≡◌, ap, ◌∙◌}
use mathlib.Core.Bool.{true, false}
use mathlib.Core.Logic.{inr}
use mathlib.Core.List.{List}
use native.Mathlib.Omega.{arith}
use lib.Ieee.{Float, lt}
use Rattle.net.specs.declared.Net.{Net as NetRecord}
use Rattle.net.specs.Tests.{any}
use Rattle.net.specs.Readable.{readable}
use Rattle.rules.specs.Gillespie.{Accepted}
use Rattle.rules.specs.Step.{State}
use Rattle.rules.specs.Run.{End}
use Rattle.rules.proofs.Counts.{once_each}
use Rattle.rules.proofs.Play.{higher, play_within}
use Rattle.rules.proofs.Happening.{ready, happens, begins_high}
use Rattle.engine.specs.Engine.{Tidy}
use Rattle.engine.proofs.Marks.{fit_all}
use Rattle.timers.specs.declared.Ring.{Ring}
use Rattle.playing.specs.Stepping.{Resumes, state_of, tokens_of, Topped}

module _ (room : ℕ) (n : NetRecord) (last : Float) (k : ℕ) (counts : List ℕ) (ats : List Float) (owners : List ℕ) (ring : Ring) (clock : Float)
    (ws : List ℕ) where
  abbrev from : State
  from = state_of n counts ats owners ring clock ws

  pub none_starts : Accepted (readable n) → Resumes counts ats owners ring clock
      → any (ready (readable n) from.counts) (readable n).transitions ≡ false → (most : ℕ) → Topped room (readable n) last k from most
  none_starts a w off most =
      inr (λ some below. happens room (readable n) from a (fit_all n.places counts w.small.small) w.clock_fits w.times_fit off)

  pub one_starts : Tidy n → 0 < k → lt clock last ≡ true → any (ready (readable n) from.counts) (readable n).transitions ≡ true
      → (many most : ℕ) → many ≡ tokens_of from → most ≤ many → (out : End) (xs : List Float)
      → higher many (play_within out room (readable n) last k xs from) ≡ higher most (play_within out room (readable n) last k xs from)
  one_starts t some below on many most e low out xs =
      ap (λ (v : ℕ). higher v (play_within out room (readable n) last k xs from)) e
      ∙ begins_high out room (readable n) (once_each (readable n) t.once) last xs from below on most (omega arith) k some
