-- The answer of a path from what its run leaves: the instants at most 0 are shown first, and what is played is written behind them, one list over all instants,
-- which is the table of the definition. A refusal clears the cells of the answer.
use types.Run.{OneOf}
use denote.Enum.Declared.{tag_of}
use Prim.Native.Nat.{ℕ, ◌+◌, ◌*◌, ◌≤◌, max}
use mathlib.Core.Path.{◌≡◌, refl, sym, ap, ◌∙◌}
use mathlib.Core.Bool.{true, false}
use mathlib.Core.List.{List, [], ◌∷◌, ◌++◌}
use mathlib.Core.Logic.{◌≢◌, ⊎_elim}
use native.Mathlib.Omega.{arith}
use lib.ListN.{length, drop, length-append, length-drop}
use lib.Ieee.{Float}
use Rattle.refusals.specs.Number.{number_of}
use Rattle.net.specs.Net.{Net, Marking, zero64}
use Rattle.rng.specs.State.{State as Generator, words}
use Rattle.rules.specs.Moves.{initial_counts}
use Rattle.rules.specs.Step.{State, state, Answer, refused, given}
use Rattle.rules.specs.Run.{End, quiet, spent, reached, halted, beginning, Outcome, outcome}
use Rattle.rules.specs.Moments.{start, sum_of, tokens}
use Rattle.rules.specs.Shown.{Path, rising, last_of, reported, run_of, worked}
use Rattle.rules.specs.Carried.{is_halted}
use Rattle.rules.proofs.Runs.{spent_unhalted}
use Rattle.rules.proofs.Play.{Played, up_to, beyond, alike, over, higher, play, settled_by, played_path}
use Rattle.rules.proofs.PlayLaws as Rule
use Rattle.rules.proofs.PlayLaws.{add_done}
use Rattle.playing.specs.declared.PathEnd.{PathEnd}
use Rattle.playing.specs.declared.PathEnd.TheVariants.{Quiet, Spent, Reached, Halted, Refused}
use Rattle.playing.specs.declared.run.Walked.{Walked}
use Rattle.playing.specs.Cells.{table_with, table_of, ShownBy}
use Rattle.ssa.specs.Path.{Call, played, end_of}
use Rattle.playing.specs.Playing.{PlayedBy, refuses, ends}
use Rattle.ssa.specs.Told.{settled_at, told_of, answer_of}
use Rattle.playing.proofs.Cells.{cleared_stay}
use Rattle.playing.proofs.Columns.{listed_with, with_with, with_whole}
use Rattle.playing.proofs.Finished.{fills}
use Rattle.playing.specs.contracts.PathEnd.{the_type}
use Rattle.playing.proofs.Playing.{shown_beyond, listed_shown, shown_within}

abbrev pub NotRefused : PathEnd → Type 0
NotRefused Quiet = Unit
NotRefused Spent = Unit
NotRefused Reached = Unit
NotRefused Halted = Unit
NotRefused (Refused c) = ⊥

pub not_refused : (end : PathEnd) → OneOf (0 ∷ 1 ∷ 2 ∷ 3 ∷ []) (tag_of the_type end) → NotRefused end
not_refused Quiet h = tt
not_refused Spent h = tt
not_refused Reached h = tt
not_refused Halted h = tt
not_refused (Refused c) h = ⊎_elim (λ a. omega arith) (⊎_elim (λ a. omega arith) (⊎_elim (λ a. omega arith) (λ a. omega arith))) h

-- a path that names no number is not halted
path_unhalted : (n : Net) (g : Generator) (xs : List Float) (k : ℕ) (a : Path) → worked n g xs k ≡ given a → a.end ≢ halted
path_unhalted n g xs k a e z = go (outcome (run_of n g xs k)) refl e
  where
    go : (o : Answer Outcome) → outcome (run_of n g xs k) ≡ o → reported n xs (run_of n g xs k) o ≡ given a → ⊥
    go (refused c) p q = let y : ◌≡◌ {A = ℕ} 0 1 = cc in omega arith
    go (given o) p q = let y : o.end ≡ a.end = cc in spent_unhalted 256 n (last_of xs) k (beginning n g) o p (y ∙ z)

not_halted : (e : End) → e ≢ halted → is_halted e ≡ false
not_halted quiet h = refl
not_halted spent h = refl
not_halted reached h = refl
not_halted halted h = absurd (h refl)

settles : (end : PathEnd) (e : End) (next n r : ℕ) → end_of end ≡ given e → next ≡ r → settled_at end next n ≡ settled_by e n r
settles Quiet e next n r p h = let q : e ≡ quiet = cc in rw q
settles Spent e next n r p h = let q : e ≡ spent = cc in rw q h
settles Reached e next n r p h = let q : e ≡ reached = cc in rw q
settles Halted e next n r p h = let q : e ≡ halted = cc in rw q h
settles (Refused c) e next n r p h = let z : ◌≡◌ {A = ℕ} 0 1 = cc in absurd (omega arith)

same_call : {e e' : Answer End} {a a' b b' d d' c c' : ℕ} {g g' : Generator} {t t' : List Float} → e ≡ e' → a ≡ a' → b ≡ b' → d ≡ d' → c ≡ c' → g ≡ g' → t ≡ t'
    → ◌≡◌ {A = Call} (record { end = e; steps = a; settled = b; peak = d; rounded = c; generator = g; table = t })
    (record { end = e'; steps = a'; settled = b'; peak = d'; rounded = c'; generator = g'; table = t' })
same_call p q r s z x y = λ i. record { end = p i; steps = q i; settled = r i; peak = s i; rounded = z i; generator = x i; table = y i }

-- an answer that is not refused is told
pub told : (w : Walked) (n : ℕ) (g : Generator) (t : List Float) (end : PathEnd) → NotRefused end → answer_of w n g t end ≡ told_of w n t end
told w n g t Quiet h = refl
told w n g t Spent h = refl
told w n g t Reached h = refl
told w n g t Halted h = refl
told w n g t (Refused c) h = absurd h

ended : (end : PathEnd) (e : End) → end_of end ≡ given e → NotRefused end
ended Quiet e p = tt
ended Spent e p = tt
ended Reached e p = tt
ended Halted e p = tt
ended (Refused c) e p = let z : ◌≡◌ {A = ℕ} 0 1 = cc in absurd (omega arith)

module _ (n : Net) (g : Generator) (xs : List Float) (k places next most : ℕ) (m : Marking) (t₀ t₁ : List Float)
    (rise : rising zero64 xs ≡ true) (begins : m ≡ initial_counts n) (first-peak : most ≡ sum_of m) (fits : places * length xs ≤ length t₀)
    (v : ShownBy places xs zero64 m 0 next t₀ t₁) where
  -- the run after the instants at most 0
  abbrev to_come : Answer Played
  to_come = higher most (play 256 n (last_of xs) k (drop next xs) (state zero64 m [] g))

  abbrev first : List Marking
  first = alike m (up_to zero64 xs)

  abbrev in_front_lem : Answer Played → Answer Path
  in_front_lem r = Rule.answer_of (length xs) (add_done first (length (up_to zero64 xs)) 0 0 0 r)

  whole_path : worked n g xs k ≡ in_front_lem to_come
  whole_path =
      played_path n g xs k rise
      ∙ Rule.as_path_done n xs (play 256 n (last_of xs) k (beyond zero64 xs) (beginning n g))
      ∙ (λ i. Rule.answer_of (length xs) (add_done (alike (sym begins i) (up_to zero64 xs)) (length (up_to zero64 xs)) (peak i) 0 0
      (play 256 n (last_of xs) k (shown_beyond places xs zero64 m 0 next t₀ t₁ v i) (state zero64 (sym begins i) [] g))))
      ∙ ap (Rule.answer_of (length xs)) (sym (Rule.add_done_higher first (length (up_to zero64 xs)) 0 0 0 most (play 256 n (last_of xs) k (drop next xs) (state zero64 m [] g))))
    where
      peak : tokens (start n) ≡ max 0 most
      peak = omega (arith, first-peak, ap sum_of begins)

  module _ (w : Walked) (left : State) (t₂ : List Float) (drawn : left.generator ≡ words w.rng.s) where
    pub path_answered : (end : PathEnd) → PlayedBy to_come places xs next t₁ t₂ left w end
        → answer_of w (length xs) g t₂ end ≡ played places (length xs) g t₀ (worked n g xs k)
    path_answered end (refuses c p z) =
        ap (λ (t : List Float). record { end = refused (number_of c); steps = 0; settled = 0; peak = 0; rounded = 0; generator = g; table = t })
        (z ∙ cleared_stay (places * length xs) t₀ t₁ v.cells.long v.cells.further)
        ∙ sym (ap (played places (length xs) g t₀) (whole_path ∙ ap in_front_lem p))
    path_answered end (ends _ e sh p count inside z h) =
        told w (length xs) g t₂ end (ended end e p)
        ∙ same_call p (omega arith) (settles end e w.next (length xs) (length (up_to zero64 xs) + (length sh + 0)) p many)
        (omega arith) (omega arith) (sym drawn) shown
        ∙ sym (ap (played places (length xs) g t₀) works)
      where
        ys : List Float
        ys = drop w.next xs

        rest : List Marking
        rest = sh ++ alike left.counts ys

        works : worked n g xs k ≡ in_front_lem (add_done sh (length sh) w.peak w.rounded w.steps (given (over e left ys)))
        works = whole_path ∙ ap in_front_lem h

        reaches : next ≡ 0 + length first
        reaches = (listed_shown places xs zero64 m 0 next t₀ t₁ v (omega arith)).count

        many : w.next ≡ length (up_to zero64 xs) + (length sh + 0)
        many = omega (arith, reaches, count, Rule.alike_length m (up_to zero64 xs))

        open_end : is_halted e ≡ false
        open_end = not_halted e (path_unhalted n g xs k _ works)

        all_filled : length (first ++ rest) ≡ length xs
        all_filled =
            omega (
              arith,
              reaches,
              count,
              inside,
              length-append first rest,
              length-append sh (alike left.counts ys),
              Rule.alike_length left.counts ys,
              length-drop w.next xs,
            )

        shown : t₂ ≡ table_of places (first ++ rest) t₀
        shown =
            z
            ∙ ap (λ (zs : List Float). table_with places (length xs) next (sh ++ alike left.counts zs) t₁) (fills e ys open_end)
            ∙ ap (table_with places (length xs) next rest)
            (listed_with (listed_shown places xs zero64 m 0 next t₀ t₁ v (omega arith)) (shown_within places xs zero64 m 0 next t₀ t₁ v (omega arith)) fits)
            ∙ ap (λ (i : ℕ). table_with places (length xs) i rest (table_with places (length xs) 0 first t₀)) reaches
            ∙ with_with places (length xs) 0 first rest t₀ (omega (arith, all_filled)) fits
            ∙ with_whole places (length xs) (first ++ rest) t₀ all_filled
