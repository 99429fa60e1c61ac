-- A path call that names no number is one that names any number not below the limit.
use Prim.Native.Nat.{ℕ, ◌+◌, ◌-◌, ◌≤◌}
use mathlib.Core.Path.{◌≡◌, refl, sym, ap, ap₂, ◌∙◌}
use mathlib.Core.Bool.{Bool, true, false, ◌&&◌}
use mathlib.Core.Logic.{◌≢◌}
use mathlib.Core.List.{List, [], ◌∷◌, ◌++◌, map}
use native.Mathlib.Omega.{arith}
use lib.Dec.{leb}
use lib.ListN.{length, drop, length-append, length-map}
use lib.Ieee.{Float, le}
use Rattle.net.specs.Net.{Net, Marking, pick, zero64}
use Rattle.rng.specs.State.{State as Generator}
use Rattle.rules.specs.Moves.{Entry, reading, after, initial_counts}
use Rattle.rules.specs.Step.{Answer, refused, given}
use Rattle.rules.specs.Run.{End, quiet, spent, reached, halted, Run, beginning, run_within, Outcome, outcome, entries, steps_of, rounded_of, trace}
use Rattle.rules.specs.Moments.{peak_of}
use Rattle.rules.specs.Shown.{shown_from, shown_at, reached_from, settled_of, last_of, rising, instants_fit, limit_fits, reported, run_of, worked, accepted_path}
use Rattle.rules.specs.Carried.{Carried, unrecorded, run_onward, met_by, leaving, settled_in, answering, ended, play_on, begun, path_naming, path_answer}
use Rattle.rules.proofs.Order.{both}
use Rattle.rules.proofs.Runs.{spent_unhalted}
use Rattle.rules.proofs.Play.{Rises, rises}
use Rattle.rules.proofs.Recording.{in_parts, shown_in_parts, met_length, rises_drop}
use Rattle.rules.proofs.PlayingOn.{run_to_limit, shows_all}

-- the counts at the beginning, at the instants that are at most 0
first_shown : (n : Net) (m : Marking) (xs : List Float) → map (shown_from n m (reading zero64 ∷ [])) xs ≡ map (λ (x : Float). m) xs
first_shown n m [] = refl
first_shown n m (x ∷ xs) = ap₂ (λ (a : Marking) (l : List Marking). a ∷ l) (go (le x zero64)) (first_shown n m xs)
  where
    go : (c : Bool) → after n m (pick c [] (reading zero64 ∷ [])) ≡ m
    go true = refl
    go false = refl

module _ (n : Net) (g : Generator) (xs : List Float) (limit : ℕ) (rise : Rises xs) where
  pub begun_length : length (begun n g xs limit).recorded ≡ reached_from (reading zero64 ∷ []) xs
  begun_length = length-map (met_by (reading zero64 ∷ []) xs) (λ (x : Float). initial_counts n) ∙ met_length (reading zero64 ∷ []) xs

  pub begun_unrecorded : unrecorded (begun n g xs limit) ≡ drop (reached_from (reading zero64 ∷ []) xs) xs
  begun_unrecorded = ap (λ (k : ℕ). drop k xs) begun_length

  pub begun_rises : Rises (unrecorded (begun n g xs limit))
  begun_rises = rw begun_unrecorded (rises_drop (reached_from (reading zero64 ∷ []) xs) xs rise)

  -- instants recorded before the first step, and those that the run reaches
  begun_reached : (es : List Entry) → length (begun n g xs limit).recorded + reached_from es (unrecorded (begun n g xs limit)) ≡ reached_from (reading zero64 ∷ es) xs
  begun_reached es =
      rw begun_length
      (sym (in_parts n (initial_counts n) (initial_counts n) (reading zero64 ∷ []) es refl xs rise).0)

  pub begun_shown : (es : List Entry)
      → (begun n g xs limit).recorded ++ map (shown_from n (initial_counts n) es) (unrecorded (begun n g xs limit)) ≡ map (shown_at n (reading zero64 ∷ es)) xs
  begun_shown es =
      rw (begun_unrecorded, ← first_shown n (initial_counts n) (met_by (reading zero64 ∷ []) xs))
      (sym (shown_in_parts n (initial_counts n) (initial_counts n) (reading zero64 ∷ []) es refl xs rise))

  pub begun_recorded : (es : List Entry)
      → (begun n g xs limit).recorded ++ map (shown_from n (initial_counts n) es) (met_by es (unrecorded (begun n g xs limit)))
      ≡ map (shown_at n (reading zero64 ∷ es)) (met_by (reading zero64 ∷ es) xs)
  begun_recorded es =
      rw (begun_unrecorded, ← first_shown n (initial_counts n) (met_by (reading zero64 ∷ []) xs))
      (sym (in_parts n (initial_counts n) (initial_counts n) (reading zero64 ∷ []) es refl xs rise).1)

  module _ (named : ℕ) where
    r : Run
    r = run_onward 256 n (begun n g xs limit) named

    left : Outcome → Carried
    left o = leaving n (begun n g xs limit) r o.left

    left_length : (o : Outcome) → length (left o).recorded ≡ reached_from (trace r) xs
    unfolding left r
    left_length o =
        length-append (begun n g xs limit).recorded _
        ∙ ap (λ (k : ℕ). length (begun n g xs limit).recorded + k)
        (length-map (met_by (entries r) (unrecorded (begun n g xs limit))) (shown_from n (initial_counts n) (entries r)) ∙ met_length (entries r) (unrecorded (begun n g xs limit)))
        ∙ begun_reached (entries r)

    settles : (o : Outcome) (e : End) → settled_of e (trace r) xs ≡ settled_in e (left o)
    settles o quiet = unfold left in refl
    settles o spent = sym (left_length o)
    settles o reached = unfold left in refl
    settles o halted = sym (left_length o)

    -- an answer that is not halted
    not_halted : (o : Outcome) → outcome r ≡ given o → o.end ≢ halted
        → reported n xs r (given o) ≡ path_answer (ended n (begun n g xs limit) r (given o))
    unfolding left r
    not_halted o p q =
        let a : map (shown_at n (trace r)) xs ≡ (answering o.end (left o)).shown =
        sym (shows_all 256 n (begun n g xs limit) named o begun_rises p q ∙ begun_shown (entries r)) in
        let b : steps_of r ≡ 0 + steps_of r = omega arith in
        let d : rounded_of r ≡ 0 + rounded_of r = omega arith in
        λ i. given (record { shown = a i; end = o.end; steps = b i; settled = settles o o.end i; peak = peak_of n (trace r); rounded = d i; generator = o.left.generator })

    -- one that names a number not below the limit
    pub never_halts : limit ≤ named → path_answer (play_on 256 n (begun n g xs limit) named) ≡ worked n g xs limit
    unfolding left r
    never_halts far = sym (ap (λ (r : Run). reported n xs r (outcome r)) (sym the_run) ∙ go (outcome r) refl)
      where
        the_run : run_onward 256 n (begun n g xs limit) named ≡ run_of n g xs limit
        the_run =
            let e : limit - 0 ≡ limit = omega arith in
            run_to_limit 256 n (begun n g xs limit) named (omega arith) ∙ ap (λ (k : ℕ). run_within spent 256 n (last_of xs) k (beginning n g)) e

        go : (o : Answer Outcome) → outcome r ≡ o → reported n xs r o ≡ path_answer (ended n (begun n g xs limit) r o)
        go (refused k) p = refl
        go (given o) p = not_halted o p (spent_unhalted 256 n (last_of xs) limit (beginning n g) o (ap outcome (sym the_run) ∙ p))

-- naming none is naming any number not below the limit
pub names_none : (n : Net) (g : Generator) (xs : List Float) (limit named : ℕ) → limit ≤ named
    → accepted_path n g xs limit ≡ path_answer (path_naming 256 n g xs limit named)
names_none n g xs limit named far = listed (instants_fit xs) refl
  where
    limited : instants_fit xs ≡ true → (d : Bool)
        → pick d (worked n g xs limit) (refused 13) ≡ path_answer (pick d (play_on 256 n (begun n g xs limit) named) (refused 13))
    limited f true =
        let h : rising zero64 xs ≡ true = (both (leb 1 (length xs) && leb (length xs) 1024) (rising zero64 xs) f).1 in
        sym (never_halts n g xs limit (rises zero64 xs h) named far)
    limited f false = refl

    listed : (c : Bool) → instants_fit xs ≡ c
        → pick c (pick (limit_fits limit) (worked n g xs limit) (refused 13)) (refused 12)
        ≡ path_answer (pick c (pick (limit_fits limit) (play_on 256 n (begun n g xs limit) named) (refused 13)) (refused 12))
    listed true f = limited f (limit_fits limit)
    listed false f = refl
