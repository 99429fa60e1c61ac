-- A path that is written: what write_words and write_times ensure is what is written of where it stands, since the number of its timers is the
-- length of their list. Assumes nothing.
use Prim.Native.Nat.{ℕ, ◌<◌}
use mathlib.Core.Path.{◌≡◌, sym, ap, ◌∙◌}
use mathlib.Core.List.{List, [], ◌∷◌}
use lib.ListN.{get_or}
use lib.Ieee.{Float, nan}
use Rattle.engine.specs.Engine.{marking}
use Rattle.carried.specs.Timers.{timers_in}
use Rattle.ssa.specs.declared.Halted.{Halted}
use Rattle.ssa.specs.Halted.{Call, standing_of}
use Rattle.c_face.specs.Layout.{word_in, time_in}
use Rattle.c_face.specs.Halted.{numbers_of, Written, Left}
use Rattle.c_face.proofs.Running.{timers_long}

module _ (places : ℕ) (h : Halted) where
  -- words 32 to 41 as leave gives them, with the generator's words
  abbrev numbers : List ℕ → List ℕ
  numbers g =
      get_or g 0 0 ∷ get_or g 1 0 ∷ get_or g 2 0 ∷ get_or g 3 0 ∷ h.steps ∷ h.limit ∷ h.peak ∷ h.rounded ∷ h.recorded ∷ h.timers.len ∷ []

  numbers_are : numbers h.generator.s ≡ numbers_of (standing_of places h)
  numbers_are =
      let q = h.timers in
      let g = h.generator.s in
      ap (λ (n : ℕ). get_or g 0 0 ∷ get_or g 1 0 ∷ get_or g 2 0 ∷ get_or g 3 0 ∷ h.steps ∷ h.limit ∷ h.peak ∷ h.rounded ∷ h.recorded ∷ n ∷ [])
      (sym (timers_long q.ats q.whos q.takens q.len))

  pub written : {g ws : List ℕ} {ts : List Float} → g ≡ h.generator.s
      → ((ats : List Float) (i : ℕ) → i < 816
      → get_or ws i 0 ≡ word_in (marking places h.counts) (numbers g) (timers_in ats h.timers.whos h.timers.takens h.timers.len) i)
      → ((whos takens : List ℕ) (i : ℕ) → i < 257 → get_or ts i nan ≡ time_in h.clock (timers_in h.timers.ats whos takens h.timers.len) i)
      → Written (standing_of places h) ws ts
  written e words times =
      let s = standing_of places h in
      record {
        each_word = λ i l. words h.timers.ats i l ∙ ap (λ (ns : List ℕ). word_in s.now.counts ns s.now.timers i) (ap numbers e ∙ numbers_are);
        each_time = times h.timers.whos h.timers.takens;
      }

-- the same call leaves the same
pub left_by : {c d : Call} {told ws ws' : List ℕ} {ts ts' table : List Float} → c ≡ d → Left c told ws ts ws' ts' table → Left d told ws ts ws' ts' table
left_by e l = rw e at l
