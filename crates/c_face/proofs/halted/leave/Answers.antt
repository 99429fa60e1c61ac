-- By the end: a refused answer is told by its number, and any other is told and written (proofs/Written).
use Prim.Native.Nat.{ℕ}
use mathlib.Core.Path.{◌≡◌, refl, ap}
use mathlib.Core.List.{List, [], ◌∷◌}
use lib.Ieee.{Float}
use Rattle.refusals.specs.declared.Refusal.{Refusal}
use Rattle.refusals.specs.Number.{number_of}
use Rattle.rules.specs.Step.{given}
use Rattle.rules.specs.Run.{End, quiet, spent, reached, halted}
use Rattle.playing.specs.declared.PathEnd.{PathEnd}
use Rattle.playing.specs.declared.PathEnd.TheVariants.{Quiet, Spent, Reached, Halted, Refused}
use Rattle.ssa.specs.declared.Onward.{Onward}
use Rattle.ssa.specs.Path.{end_of}
use Rattle.ssa.specs.Halted.{standing_of, call_of}
use Rattle.ssa.proofs.Answered.{NotRefused}
use Rattle.c_face.specs.Played.{end_number}
use Rattle.c_face.specs.Halted.{Written, Left}
use Rattle.c_face.proofs.Written.{written}
use Rattle.c_face.proofs.halted.leave.Goals as goal

end_given : (e : PathEnd) → NotRefused e → (a : End) × (end_of e ≡ given a)
end_given Quiet h = (quiet, refl)
end_given Spent h = (spent, refl)
end_given Reached h = (reached, refl)
end_given Halted h = (halted, refl)
end_given (Refused k) h = absurd h

unrefused : (e : PathEnd) → ((k : Refusal) → e ≡ Refused k → ⊥) → NotRefused e
unrefused Quiet h = tt
unrefused Spent h = tt
unrefused Reached h = tt
unrefused Halted h = tt
unrefused (Refused k) h = absurd (h k refl)

module _ (places : ℕ) (r : Onward) (k : ℕ) (ws : List ℕ) (ts : List Float) where
  left_refused : (c : Refusal) → r.end ≡ Refused c → k ≡ number_of c → (table : List Float) →
      Left (call_of places r table) (k ∷ 0 ∷ 0 ∷ 0 ∷ 0 ∷ []) ws ts ws ts table
  left_refused c e h table = record { numbers = rw e (ap (λ (j : ℕ). j ∷ 0 ∷ 0 ∷ 0 ∷ 0 ∷ []) h); path = rw e (refl, refl); cells = refl }

  left_given : (ws' : List ℕ) (ts' : List Float) → NotRefused r.end → k ≡ end_number (end_of r.end) → Written (standing_of places r.state) ws' ts'
      → (table : List Float) → Left (call_of places r table) (k ∷ r.state.steps ∷ r.settled ∷ r.state.peak ∷ r.state.rounded ∷ []) ws ts ws' ts' table
  left_given ws' ts' n h w table =
      let e = (end_given r.end n).1 in
      record {
        numbers = rw e (ap (λ (j : ℕ). j ∷ r.state.steps ∷ r.settled ∷ r.state.peak ∷ r.state.rounded ∷ []) (rw e at h));
        path = rw e w;
        cells = refl;
      }

pub returns-in-Refused : goal.returns-in-Refused
returns-in-Refused c =
    let s = c.args in
    left_refused s.places s.r c.number.result s.halted.now s.times.now c.in-Refused.c c.in-Refused.is c.number.ensures

pub returns : goal.returns
returns c =
    let s = c.args in
    left_given s.places s.r c.end_number.result s.halted.now s.times.now _ _ (unrefused s.r.end c.in_default.not-Refused) c.end_number.ensures
    (written s.places s.r.state c.state-w.ensures c.write_words.ensures c.write_times.ensures)
