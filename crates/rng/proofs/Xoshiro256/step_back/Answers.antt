-- `rng::Xoshiro256::step_back` meets its contract: what the rotation and `unshear` ensure, put together, and that a step undoes a step back. Assumes nothing.
use Rattle.std.proofs.Common.{◌≡◌, get_or, ap, ◌∙◌, w64, Fits, rules}
use Rattle.rng.specs.State.{State, words}
use Rattle.rng.specs.Xoshiro.{step}
use Rattle.rng.specs.Laws.{InRange, step_back}
use Rattle.rng.proofs.Reversed.{step_after_back}
use Rattle.rng.proofs.Xoshiro256.step_back.Goals as goal

undone : (t s : State) → InRange s → t ≡ step_back s → (t ≡ step_back s) × (step t ≡ s)
undone t s h e = (e, ap step e ∙ step_after_back s h)

pub returns : goal.returns
returns c =
    let l = c.args.self.s in
    let f0 : Fits w64 (get_or l 0 0) = search rules in
    let f1 : Fits w64 (get_or l 1 0) = search rules in
    let f2 : Fits w64 (get_or l 2 0) = search rules in
    let f3 : Fits w64 (get_or l 3 0) = search rules in
    undone _ (words l) (record { in0 = f0.fits; in1 = f1.fits; in2 = f2.fits; in3 = f3.fits }) (cc)
