-- A halted path that is carried on, over the same net with the identity list, is the unhalted one. What a halted call leaves is read as it was left
-- and passes the tests, its cells too; and the call that takes it up answers as the rules' call does, whatever counts it reads (ByNumber).
use Prim.Native.Nat.{ℕ, ◌+◌, ◌-◌, ◌≤◌, ◌<◌}
use mathlib.Core.Path.{◌≡◌, refl, sym, ap, subst₂, ◌∙◌}
use mathlib.Core.Bool.{true, ◌&&◌, not}
use mathlib.Core.List.{List, [], ◌∷◌, ◌++◌, map, append-nil}
use mathlib.Core.Option.{none}
use native.Mathlib.Omega.{arith}
use native.Mathlib.Decide.{dec_lt}
use lib.Dec.{leb}
use lib.ListN.{length, get_or, drop, length-append, length-map, get_or-append}
use lib.Seq.{get_or-append-add, ext_get_or}
use lib.Ieee.{Float, le}
use Rattle.net.specs.declared.Net.{Net as NetRecord}
use Rattle.net.specs.Net.{Net, Marking, held}
use Rattle.net.specs.Readable.{readable, fault}
use Rattle.net.specs.Tests.{any}
use Rattle.rules.specs.Moves.{Entry, move, after}
use Rattle.rules.specs.Step.{State, Answer, given}
use Rattle.rules.specs.Run.{halted, outcome, entries}
use Rattle.rules.specs.Shown.{before, shown_from}
use Rattle.rules.specs.Demand3.{instant}
use Rattle.rules.specs.Carried.{Carried, unrecorded, run_onward, met_by, leaving, Onward, answering, ended, play_on, then_call}
use Rattle.rules.specs.Change.{cell_fits, identity}
use Rattle.rules.proofs.Accepted.{bounded}
use Rattle.rules.proofs.Counts.{move_length}
use Rattle.rules.proofs.Demand3Held.{at_instant}
use Rattle.rules.proofs.HaltingHeld.{two, identity_same}
use Rattle.rules.proofs.Passing.{Fit, no_fault, fit_left}
use Rattle.carried.specs.Records.{recorded_in}
use Rattle.carried.proofs.Recorded.{recorded_long, recorded_wide, recorded_held}
use Rattle.playing.specs.Cells.{table_with}
use Rattle.ssa.specs.Halted.{Standing, standing, Call, played, carrying}
use Rattle.ssa.specs.Edition.{carried_by, Same}
use Rattle.ssa.proofs.Recorded.{cell_in, float_fits, not_strange}
use Rattle.ssa.proofs.Called.{Passed, passed_plays}
use Rattle.ssa.proofs.Behind.{Plays, recorded_few, left_by, shown_some, shown_halted, shown_exact, left_long, cell_stands, cell_shows, cell_holds}
use Rattle.ssa.proofs.ByNumber.{with_records, resumed}

-- ---- what a halted call leaves

abbrev pub halted_as : NetRecord → Carried → ℕ → State → Carried
halted_as n c h u = leaving (readable n) c (run_onward 256 (readable n) c h) u

abbrev cells_of : NetRecord → ℕ → Carried → List Float → ℕ → State → List Float
cells_of n from c t h u = left_by n.places from c t (answering halted (halted_as n c h u))

after_length : (n : Net) (es : List Entry) (m : Marking) → length (after n m es) ≡ length m
after_length n [] m = refl
after_length n (e ∷ es) m = after_length n es (move n m e) ∙ move_length n m e

module _ (n : NetRecord) (from : ℕ) (c : Carried) (t : List Float) (w : Plays n.places from c t)
    (h : ℕ) (u : State) (stops : outcome (run_onward 256 (readable n) c h) ≡ given (record { end = halted; left = u })) where
  abbrev d : Carried
  d = halted_as n c h u

  abbrev a : Onward
  a = answering halted (halted_as n c h u)

  abbrev cells : List Float
  cells = cells_of n from c t h u

  plays : play_on 256 (readable n) c h ≡ given a
  plays = ap (ended (readable n) c (run_onward 256 (readable n) c h)) stops

  many : length a.shown ≡ length d.recorded
  many = shown_halted (readable n) n.places from c t w h a plays refl

  -- ---- the records as the next call reads them

  abbrev ms : List Marking
  ms = recorded_in n.places (length c.instants) cells (length d.recorded)

  as_many : length ms ≡ length d.recorded
  as_many = recorded_long n.places (length c.instants) cells (length d.recorded)

  -- where each marking has as many counts as the net has places, they are those that were left
  module _ (wide : length c.now.counts ≡ n.places)
      (each : (i : ℕ) → i < length c.recorded → length (get_or c.recorded i []) ≡ n.places) where
    each_left : (i : ℕ) → i < length d.recorded → length (get_or d.recorded i []) ≡ n.places
    each_left i b = go (dec_lt i (length c.recorded))
      where
        es : List Entry
        es = entries (run_onward 256 (readable n) c h)

        f : Float → Marking
        f = shown_from (readable n) c.now.counts (entries (run_onward 256 (readable n) c h))

        zs : List Float
        zs = met_by (entries (run_onward 256 (readable n) c h)) (unrecorded c)

        go : Dec (i < length c.recorded) → length (get_or (c.recorded ++ map f zs) i []) ≡ n.places
        go (yes k) = ap length (get_or-append c.recorded (map f zs) [] i k) ∙ each i k
        go (no k) =
            let j : ℕ = i - length c.recorded in
            let e : i ≡ length c.recorded + j = omega arith in
            let inside : j < length zs = omega (arith, b, length-append c.recorded (map f zs), length-map zs f) in
            ap (λ (k : ℕ). length (get_or (c.recorded ++ map f zs) k [])) e
            ∙ ap length (get_or-append-add c.recorded (map f zs) j [] ∙ at_instant f zs j inside)
            ∙ after_length (readable n) (before (instant zs j) es) c.now.counts
            ∙ wide

    column : (i : ℕ) → i < length d.recorded → get_or ms i [] ≡ get_or d.recorded i []
    column i k =
        let all = recorded_wide n.places (length c.instants) cells (length d.recorded) i k in
        ext_get_or 0 (get_or ms i []) (get_or d.recorded i []) (all ∙ sym (each_left i k)) (λ p l.
        let inside : p < n.places = omega (arith, l, all) in
        recorded_held n.places (length c.instants) cells (length d.recorded) p i inside k
        ∙ cell_holds (readable n) n.places from c t w h a plays p i inside (omega (arith, k, many))
        ∙ ap (λ (shown : List Marking). held (get_or shown i []) p) (append-nil d.recorded))

    pub goes_over : carried_by n (standing (halted_as n c h u)) c.instants (cells_of n from c t h u) ≡ halted_as n c h u
    goes_over = ap (with_records d) (ext_get_or [] ms d.recorded as_many (λ i b. column i (omega (arith, b, as_many))))

  -- ---- the call that takes it up

  cells_fine : (p i : ℕ) → p < n.places → i < length d.recorded → cell_fits (cell_in (length c.instants) cells p i) ≡ true
  cells_fine p i l b = go (dec_lt i from)
    where
      go : Dec (i < from) → cell_fits (cell_in (length c.instants) cells p i) ≡ true
      go (yes k) = ap cell_fits (cell_stands (readable n) n.places from c t w h a plays p i l k) ∙ w.fine p i l k
      go (no k) =
          ap cell_fits (cell_shows (readable n) n.places from c t w h a plays p i l (omega arith) (omega (arith, many)))
          ∙ float_fits _ (shown_exact (readable n) n.places from c t w h a plays i p l)

  module _ (sound : fault n ≡ none) (v : Fit 256 (readable n) c) where
    fit : Fit 256 (readable n) d
    fit = fit_left 256 (readable n) (bounded n sound) c v h a plays refl

    passes : Passed n n (identity (readable n)) (standing d) c.instants cells
    passes = record {
      old_sound = sound;
      new_sound = sound;
      room = omega (arith, w.room, left_long (readable n) n.places from c t w h a plays);
      fine = not_strange (length c.instants) (length d.recorded) cells n.places cells_fine;
      no_fault = no_fault 256 (readable n) (with_records d ms) (record {
        moment = fit.moment;
        few = fit.few;
        steps = fit.steps;
        rounded = fit.rounded;
        instants = fit.instants;
        records = ap (λ (k : ℕ). leb k (length c.instants) && not (any (λ (x : Float). le x u.clock) (drop k c.instants))) as_many
            ∙ fit.records;
        limit = fit.limit;
      });
    }

    pub goes_on : (s : Standing) (k : ℕ)
        → Same (carrying n n (identity (readable n)) (standing (halted_as n c h u)) c.instants k (cells_of n from c t h u))
        (played n.places (length c.instants) from s t (play_on 256 (readable n) c (h + k)))
    goes_on s k =
        let inside : from ≤ length d.recorded = omega (arith, w.first, many, shown_some (readable n) n.places from c t w h a plays) in
        let answers : List Float → Carried → Call = λ (x : List Float) (e : Carried).
        played n.places (length c.instants) (length d.recorded) (standing d) x (play_on 256 (readable n) e k) in
        let table : cells ≡ table_with n.places (length c.instants) from (drop from d.recorded) t =
        ap (λ (sh : List Marking). table_with n.places (length c.instants) from (drop from sh) t) (append-nil d.recorded) in
        let carries : carrying n n (identity (readable n)) (standing d) c.instants k cells ≡ answers cells (with_records d ms) =
        passed_plays n n (identity (readable n)) (standing d) c.instants cells passes k
        ∙ ap (answers cells) (identity_same (readable n) (with_records d ms)) in
        let whole : play_on 256 (readable n) c (h + k) ≡ play_on 256 (readable n) d k =
        two 256 (readable n) c w.rise h k
        ∙ ap (λ (b : Answer Onward). then_call b (λ (e : Carried). play_on 256 (readable n) e k)) plays in
        subst₂ Same
        (sym (carries ∙ ap (λ (x : List Float). answers x (with_records d ms)) table))
        (sym (ap (played n.places (length c.instants) from s t) whole))
        (resumed (readable n) n.places from s (standing d) t d ms as_many inside (recorded_few d fit.records) w.room k)
