-- The end of a run in the cells: what the loop has shown is written from its first instant on, and what the end adds is written behind it (proofs/Columns,
-- with-with), or nothing is where it is halted; a refusal clears the cells of the answer, whatever was shown.
use Prim.Native.Nat.{ℕ, suc, ◌-◌, ◌*◌, ◌≤◌, ◌<◌}
use mathlib.Core.Path.{◌≡◌, refl, sym, ap, ◌∙◌}
use mathlib.Core.Bool.{false}
use mathlib.Core.List.{List, [], ◌∷◌, ◌++◌, append-nil}
use native.Mathlib.Omega.{arith}
use native.Mathlib.Nat.{not-suc-le-zero}
use lib.ListN.{length, get_or, drop, length-append, length-drop}
use lib.Ieee.{Float, nan}
use Rattle.net.specs.Net.{Marking}
use Rattle.rules.specs.Step.{State, Answer}
use Rattle.rules.specs.Run.{End, quiet, spent, reached, halted}
use Rattle.rules.specs.Shown.{last_of}
use Rattle.rules.specs.Carried.{is_halted, filled_by}
use Rattle.rules.proofs.Play.{Played, alike}
use Rattle.rules.proofs.PlayLaws.{alike_length}
use Rattle.playing.specs.declared.PathEnd.{PathEnd}
use Rattle.playing.specs.declared.PathEnd.TheVariants.{Quiet, Spent, Reached, Halted, Refused}
use Rattle.playing.specs.declared.run.Walked.{Walked}
use Rattle.playing.specs.Cells.{table_with, Stay, Filled, FinishedBy}
use Rattle.playing.specs.Playing.{Listed, WalkBy, PlayedBy, refuses, ends}
use Rattle.playing.proofs.Cells.{cleared_stay}
use Rattle.playing.proofs.Columns.{listed_with, filled_with, with_with}

-- the last instant, by its index
pub last_at : (xs : List Float) → 0 < length xs → get_or xs (length xs - 1) nan ≡ last_of xs
last_at [] h = absurd (not-suc-le-zero h)
last_at (x ∷ []) h = refl
last_at (x ∷ (y ∷ ys)) h =
    let a : suc (suc (length ys)) - 1 ≡ suc (length ys) = omega arith in
    let b : length ys ≡ suc (length ys) - 1 = omega arith in
    ap (λ (i : ℕ). get_or (x ∷ (y ∷ ys)) i nan) a ∙ ap (λ (i : ℕ). get_or (y ∷ ys) i nan) b ∙ last_at (y ∷ ys) (omega arith)

-- an end that is not halted fills what is left
pub fills : (e : End) (ys : List Float) → is_halted e ≡ false → filled_by e ys ≡ ys
fills e ys h = rw h

module _ (whole : Answer Played) (places : ℕ) (xs : List Float) (from : ℕ) (t₀ t₁ t₂ : List Float) (left : State) (w : Walked)
    (fits : places * length xs ≤ length t₀) (long : length t₁ ≡ length t₀) where
  -- the instants that are left show the last counts
  filled : (e : End) (sh : List Marking) → is_halted e ≡ false → w.next ≤ length xs → Listed places (length xs) from w.next sh t₀ t₁
      → Filled places (length xs) w.next (length xs) left.counts t₁ t₂
      → t₂ ≡ table_with places (length xs) from (sh ++ alike left.counts (filled_by e (drop w.next xs))) t₀
  filled e sh open_end inside l f =
      filled_with f inside (omega arith) (omega (arith, fits, long)) ys (length-drop w.next xs)
      ∙ ap (λ (t : List Float). table_with places (length xs) w.next rest t) (listed_with l inside fits)
      ∙ ap (λ (k : ℕ). table_with places (length xs) k rest (table_with places (length xs) from sh t₀)) l.count
      ∙ with_with places (length xs) from sh rest t₀
      (omega (arith, l.count, inside, length-append sh rest, alike_length left.counts ys, length-drop w.next xs)) fits
      ∙ ap (λ (zs : List Float). table_with places (length xs) from (sh ++ alike left.counts zs) t₀) (sym (fills e ys open_end))
    where
      ys : List Float
      ys = drop w.next xs

      rest : List Marking
      rest = alike left.counts ys

  -- nothing is added
  left_so : (sh : List Marking) → w.next ≤ length xs → Listed places (length xs) from w.next sh t₀ t₁ → t₂ ≡ t₁
      → t₂ ≡ table_with places (length xs) from (sh ++ []) t₀
  left_so sh inside l e = e ∙ listed_with l inside fits ∙ ap (λ (zs : List Marking). table_with places (length xs) from zs t₀) (sym (append-nil sh))

  abbrev Walked-to : PathEnd → Type 0
  Walked-to end = WalkBy whole xs left (λ (sh : List Marking). Listed places (length xs) from w.next sh t₀ t₁) w end

  pub played_by : (end : PathEnd) → Walked-to end → Stay places (length xs) t₀ t₁ → FinishedBy places (length xs) w.next left.counts t₁ t₂ end
      → PlayedBy whole places xs from t₀ t₂ left w end
  played_by Quiet (ends _ e sh p inside l h) stay f =
      let q : e ≡ quiet = cc in ends Quiet e sh p l.count inside (filled e sh (rw q refl) inside l f) h
  played_by Spent (ends _ e sh p inside l h) stay f =
      let q : e ≡ spent = cc in ends Spent e sh p l.count inside (filled e sh (rw q refl) inside l f) h
  played_by Reached (ends _ e sh p inside l h) stay f =
      let q : e ≡ reached = cc in ends Reached e sh p l.count inside (filled e sh (rw q refl) inside l f) h
  played_by Halted (ends _ e sh p inside l h) stay f =
      let q : e ≡ halted = cc in ends Halted e sh p l.count inside (rw q (left_so sh inside l f)) h
  played_by (Refused c) (refuses _ p) stay f = refuses c p (f ∙ cleared_stay (places * length xs) t₀ t₁ long stay)
  played_by (Refused c) (ends _ e sh p inside l h) stay f = let z : ◌≡◌ {A = ℕ} 0 1 = cc in absurd (omega arith)
