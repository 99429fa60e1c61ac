-- The answer of a call that has passed its tests. It shows its records, and counts of a run from counts that fit, each at most 2^53.
-- So a cell that it leaves is the float of the count shown there, or stands as it was found and holds the count that is recorded.
use Prim.Native.Nat.{ℕ, ◌+◌, ◌-◌, ◌*◌, ◌^◌, min, ◌≤◌, ◌<◌}
use mathlib.Core.Path.{◌≡◌, refl, sym, ap, ◌∙◌}
use mathlib.Core.Bool.{Bool, true, false, not}
use mathlib.Core.List.{List, [], ◌∷◌, ◌++◌, map}
use mathlib.Core.Logic.{◌≢◌}
use native.Mathlib.Omega.{arith}
use native.Mathlib.Decide.{dec_lt}
use native.Mathlib.Nat.{not-suc-le-zero}
use lib.Dec.{leb}
use lib.ListN.{length, get_or, take, drop, length-append, length-take, length-drop, length-map, get_or-append, get_or-eq_default}
use lib.Seq.{get_or-append-add, get_or-drop}
use lib.Ieee.{Float, le}
use borrow.Author.Tests.{leb-true}
use Rattle.net.specs.declared.Net.{Net as NetRecord}
use Rattle.net.specs.Net.{Net, Marking, zero64, held}
use Rattle.net.specs.Readable.{readable}
use Rattle.net.specs.Tests.{any}
use Rattle.rng.specs.State.{State as Generator}
use Rattle.rules.specs.Propensity.{float}
use Rattle.rules.specs.Moves.{reading, initial_counts}
use Rattle.rules.specs.Step.{Answer, given, counts_fit}
use Rattle.rules.specs.Run.{halted, entries}
use Rattle.rules.specs.Shown.{shown_from, last_of, rising}
use Rattle.rules.specs.Carried.{Carried, unrecorded, run_onward, met_by, leaving, Onward, play_on, begun}
use Rattle.rules.specs.Change.{state_strange, records_fit, cell_fits, Pair, renamed}
use Rattle.rules.specs.Halting.{counts_at}
use Rattle.rules.proofs.Accepted.{fit_held, bounded}
use Rattle.rules.proofs.HaltingHeld as Rule
use Rattle.rules.proofs.Order.{both}
use Rattle.rules.proofs.Passing.{begun_fit}
use Rattle.rules.proofs.Play.{Rises, rises}
use Rattle.rules.proofs.PlayingOn.{answered, shows_recorded, shows_all}
use Rattle.rules.proofs.Recording.{rises_drop}
use Rattle.rules.proofs.SameCounts.{answer_shows, fit_rises}
use Rattle.rules.proofs.Shows.{run_shows, each_fits}
use Rattle.carried.specs.Records.{count_in, recorded_in}
use Rattle.carried.proofs.Recorded.{count_in_float, recorded_long, recorded_held}
use Rattle.carried.proofs.Tested.{by_counts}
use Rattle.playing.specs.Cells.{table_with}
use Rattle.ssa.specs.Halted.{Standing, Call, played}
use Rattle.ssa.specs.Edition.{carried_by, Behind}
use Rattle.ssa.proofs.Called.{Named, Passed}
use Rattle.playing.proofs.Columns.{with_long, with_at, with_earlier}
use Rattle.ssa.proofs.Recorded.{cell_in, fit_count, cells_fit}

-- ---- a path that a call plays, over so many places, into a table that has recorded the instants before `from`

pub record Plays (places from : ℕ) (c : Carried) (t : List Float) : Type 0 where
  pub room : places * length c.instants ≤ length t
  pub rise : rising zero64 c.instants ≡ true
  pub fit : counts_fit c.now.counts ≡ true
  pub few : length c.recorded ≤ length c.instants
  pub exact : (i p : ℕ) → p < places → held (get_or c.recorded i []) p ≤ 2 ^ 53
  pub first : from ≤ length c.recorded
  pub fine : (p i : ℕ) → p < places → i < from → cell_fits (cell_in (length c.instants) t p i) ≡ true
  pub reads : (p i : ℕ) → p < places → i < from → count_in (cell_in (length c.instants) t p i) ≡ held (get_or c.recorded i []) p

pub recorded_few : (c : Carried) → records_fit c ≡ true → length c.recorded ≤ length c.instants
recorded_few c h =
    leb-true _ _ (both (leb (length c.recorded) (length c.instants)) (not (any (λ (x : Float). le x c.now.clock) (unrecorded c))) h).0

-- the path of a call that names a number: nothing is recorded in its table
pub begun_plays : (n : NetRecord) (g : Generator) (xs : List Float) (limit : ℕ) (t : List Float) → Named n xs limit t
    → Plays n.places 0 (begun (readable n) g xs limit) t
begun_plays n g xs limit t w =
    let c = begun (readable n) g xs limit in
    let fit = (bounded n w.sound).initial in
    let all = each_fits (λ (x : Float). initial_counts (readable n)) (λ x. fit) (met_by (reading zero64 ∷ []) xs) in
    record {
      room = w.room;
      rise = fit_rises xs w.instants;
      fit = fit;
      few = recorded_few c (begun_fit 256 (readable n) (bounded n w.sound) g xs limit w.instants w.limits).records;
      exact = λ i p l. fit_held (get_or c.recorded i []) (all i) p;
      first = omega arith;
      fine = λ p i l b. absurd (not-suc-le-zero b);
      reads = λ p i l b. absurd (not-suc-le-zero b);
    }

recorded_exact : (places n r : ℕ) (t : List Float) → ((p i : ℕ) → p < places → i < r → cell_fits (cell_in n t p i) ≡ true)
    → (i p : ℕ) → p < places → held (get_or (recorded_in places n t r) i []) p ≤ 2 ^ 53
recorded_exact places n r t fine i p l = go (dec_lt i r)
  where
    go : Dec (i < r) → held (get_or (recorded_in places n t r) i []) p ≤ 2 ^ 53
    go (yes b) = omega (arith, recorded_held places n t r p i l b, fit_count _ (fine p i l b))
    go (no b) = rw (get_or-eq_default (recorded_in places n t r) [] {n = i} (omega (arith, recorded_long places n t r))) (omega arith)

counts_fit_lem : (c : Carried) → state_strange 256 c ≡ false → counts_fit c.now.counts ≡ true
counts_fit_lem c h = go (counts_fit c.now.counts) refl
  where
    go : (b : Bool) → counts_fit c.now.counts ≡ b → b ≡ true
    go true e = refl
    go false e = by_counts c e ∙ ap not h

-- the path of a carrying call
module _ (old new : NetRecord) (ps : List Pair) (s : Standing) (xs t : List Float) (w : Passed old new ps s xs t) where
  pub tests : Rule.Passed 256 (readable old) (readable new) false false (carried_by old s xs t) ps
  tests = Rule.passed 256 (readable old) (readable new) false false (carried_by old s xs t) ps w.no_fault

  pub carried_plays : Plays old.places s.recorded (renamed ps (carried_by old s xs t)) t
  carried_plays =
      let c = carried_by old s xs t in
      let many : length c.recorded ≡ s.recorded = recorded_long old.places (length xs) t s.recorded in
      let few : length c.recorded ≤ length xs = recorded_few c tests.records_fit in
      let fine = cells_fit (length xs) s.recorded t old.places w.room (omega arith) w.fine in
      record {
        room = w.room;
        rise = fit_rises xs tests.instants_fit;
        fit = counts_fit_lem c tests.not_strange;
        few = few;
        exact = recorded_exact old.places (length xs) s.recorded t fine;
        first = omega arith;
        fine = fine;
        reads = λ p i l b. sym (recorded_held old.places (length xs) t s.recorded p i l b);
      }

-- ---- its answer

abbrev shown_by : Net → Carried → ℕ → Float → Marking
shown_by n c h = shown_from n c.now.counts (entries (run_onward 256 n c h))

-- the table that it leaves
abbrev pub left_by : ℕ → ℕ → Carried → List Float → Onward → List Float
left_by places from c t a = table_with places (length c.instants) from (drop from a.shown) t

module _ (n : Net) (places from : ℕ) (c : Carried) (t : List Float) (w : Plays places from c t)
    (h : ℕ) (a : Onward) (q : play_on 256 n c h ≡ given a) where
  rise : Rises (unrecorded c)
  rise = rises_drop (length c.recorded) c.instants (rises zero64 c.instants w.rise)

  shows : (k : ℕ) × (a.shown ≡ c.recorded ++ map (shown_by n c h) (take k (unrecorded c)))
  shows = answer_shows 256 n c rise h a (answered 256 n c h a q)

  -- how many instants are shown: between those recorded before and all; those recorded then, where it is halted; and all, where it is not
  long : length a.shown ≡ length c.recorded + min shows.0 (length c.instants - length c.recorded)
  long =
      let k = shows.0 in
      ap length shows.1
      ∙ length-append c.recorded (map (shown_by n c h) (take k (unrecorded c)))
      ∙ ap (λ (j : ℕ). length c.recorded + j) (length-map (take k (unrecorded c)) (shown_by n c h) ∙ length-take k (unrecorded c))
      ∙ ap (λ (j : ℕ). length c.recorded + min k j) (length-drop (length c.recorded) c.instants)

  pub shown_some : length c.recorded ≤ length a.shown
  shown_some = omega (arith, long)

  shown_few : length a.shown ≤ length c.instants
  shown_few = omega (arith, long, w.few)

  pub shown_halted : a.end ≡ halted → length a.shown ≡ length a.left.recorded
  shown_halted e =
      let A = answered 256 n c h a q in
      let halts = ap (λ (b : Onward). b.end) (sym A.is) ∙ e in
      ap (λ (b : Onward). length b.shown) A.is
      ∙ ap length (shows_recorded A.ending.end (leaving n c (run_onward 256 n c h) A.ending.left) halts)
      ∙ ap (λ (b : Onward). length b.left.recorded) (sym A.is)

  pub shown_whole : a.end ≢ halted → length a.shown ≡ length c.instants
  shown_whole e =
      let A = answered 256 n c h a q in
      let all = shows_all 256 n c h A.ending rise A.ended_so (λ z. e (ap (λ (b : Onward). b.end) A.is ∙ z)) in
      omega (
        arith,
        ap (λ (b : Onward). length b.shown) A.is ∙ ap length all,
        length-append c.recorded (map (shown_by n c h) (unrecorded c)),
        length-map (unrecorded c) (shown_by n c h),
        length-drop (length c.recorded) c.instants,
        w.few,
      )

  pub shown_exact : (i p : ℕ) → p < places → held (counts_at a i) p ≤ 2 ^ 53
  shown_exact i p l = rw shows.1 (go (dec_lt i (length c.recorded)))
    where
      xs : List Float
      xs = take shows.0 (unrecorded c)

      ms : List Marking
      ms = map (shown_by n c h) (take shows.0 (unrecorded c))

      fits : (x : Float) → counts_fit (shown_by n c h x) ≡ true
      fits x = run_shows _ 256 n (last_of c.instants) (min h (c.limit - c.steps)) c.now w.fit x

      go : Dec (i < length c.recorded) → held (get_or (c.recorded ++ map (shown_by n c h) (take shows.0 (unrecorded c))) i []) p ≤ 2 ^ 53
      go (yes b) = rw (get_or-append c.recorded ms [] i b) (w.exact i p l)
      go (no b) =
          let j : ℕ = i - length c.recorded in
          let e : i ≡ length c.recorded + j = omega arith in
          rw (e, get_or-append-add c.recorded ms j []) (fit_held (get_or ms j []) (each_fits (shown_by n c h) fits xs j) p)

  -- ---- the cells

  within : from + length (drop from a.shown) ≤ length c.instants
  within = omega (arith, length-drop from a.shown, w.first, shown_some, shown_few)

  pub left_long : length (left_by places from c t a) ≡ length t
  left_long = with_long places (length c.instants) from (drop from a.shown) t w.room within

  pub cell_stands : (p i : ℕ) → p < places → i < from
      → cell_in (length c.instants) (left_by places from c t a) p i ≡ cell_in (length c.instants) t p i
  cell_stands p i l b = with_earlier places (length c.instants) from (drop from a.shown) t w.room within p i l b

  pub cell_shows : (p i : ℕ) → p < places → from ≤ i → i < length a.shown
      → cell_in (length c.instants) (left_by places from c t a) p i ≡ float (held (counts_at a i) p)
  cell_shows p i l b f =
      let k = i - from in
      let e : from + k ≡ i = omega arith in
      ap (cell_in (length c.instants) (left_by places from c t a) p) (sym e)
      ∙ with_at places (length c.instants) from (drop from a.shown) t w.room within p k l (omega (arith, length-drop from a.shown))
      ∙ ap (λ (m : Marking). float (held m p)) (get_or-drop from a.shown k [] ∙ ap (counts_at a) e)

  -- the count that a cell holds, recorded before or shown
  pub cell_holds : (p i : ℕ) → p < places → i < length a.shown
      → count_in (cell_in (length c.instants) (left_by places from c t a) p i) ≡ held (counts_at a i) p
  cell_holds p i l b = go (dec_lt i from)
    where
      go : Dec (i < from) → count_in (cell_in (length c.instants) (left_by places from c t a) p i) ≡ held (counts_at a i) p
      go (yes k) =
          let stands = ap (λ (ms : List Marking). get_or ms i []) shows.1 ∙ get_or-append c.recorded _ [] i (omega (arith, w.first)) in
          ap count_in (cell_stands p i l k) ∙ w.reads p i l k ∙ sym (ap (λ (m : Marking). held m p) stands)
      go (no k) = ap count_in (cell_shows p i l (omega arith) b) ∙ count_in_float _ (shown_exact i p l)

  -- ---- the call that answers so

  pub behind : (s : Standing) (rule : Answer Onward) (d : Call) → d ≡ played places (length c.instants) from s t (given a) → rule ≡ given a
      → Behind places (length c.instants) from t rule d
  behind s rule d is gives =
      record {
        answer = a;
        gives = gives;
        end = ap (λ (x : Call). x.end) is;
        settled = ap (λ (x : Call). x.settled) is;
        state = ap (λ (x : Call). x.state) is;
        table = ap (λ (x : Call). x.table) is;
        exact = shown_exact;
      }
