-- State and drift below p have the transition's noise and drift: a skip steps over places that both leave as they are, to one that is changed.
-- Assumes nothing.
use Rattle.std.proofs.Common.{◌≡◌, ℕ, ◌+◌, ◌-◌, ◌*◌, ◌≤◌, ◌<◌, false, List, get_or}
use lib.Ieee.{Float, nan, eq}
use Rattle.net.specs.Net.{zero64}
use Rattle.sde.specs.Diffusion.{noise_by, drift_by}
use Rattle.sde.proofs.Each.{MapTo}
use Rattle.sde.proofs.substep.spread.Given as goal

abbrev pub noisy : List Float → ℕ → Float → ℕ → Float → Float
noisy changes j noise p = noise_by (get_or changes (32 * j + p) nan) noise

abbrev pub drifting : List Float → ℕ → Float → Float → ℕ → Float → Float
drifting changes j a dt p = drift_by (get_or changes (32 * j + p) nan) a dt

abbrev pub invariant-loop-p : goal.invariant-loop-p
invariant-loop-p l = record {
  within : l.p ≤ l.run.net.places;
  noised : MapTo (noisy l.run.changes.now l.j l.noise) l.p l.initial.state.x l.state.x;
  drifted : MapTo (drifting l.run.changes.now l.j l.a l.run.dt) l.p l.initial.state.drift l.state.drift;
  changed : l.p < l.run.net.places → eq (get_or l.run.changes.now (32 * l.j + l.p) nan) zero64 ≡ false;
  sampler : l.state.sampler ≡ l.initial.state.sampler;
}

abbrev pub decreases-loop-p : goal.decreases-loop-p
decreases-loop-p l = l.run.net.places - l.p
