-- A path that is played on. What the player shows from the first unrecorded instant on (Playing, PlayedBy) stands behind the rules' records, so its
-- answer, the state left and the table are those of the call (Halted, played); columns that the call records first are written in front of them.
use Prim.Native.Nat.{ℕ, suc, ◌+◌, ◌-◌, ◌*◌, ◌≤◌, min, max}
use mathlib.Core.Path.{◌≡◌, refl, sym, ap, ap₂, ◌∙◌, subst}
use mathlib.Core.Bool.{Bool, true, false, or-false}
use mathlib.Core.List.{List, [], ◌∷◌, ◌++◌, map, append_assoc}
use native.Mathlib.Omega.{arith}
use native.Mathlib.Nat.{zero-add}
use lib.Dec.{ltb}
use lib.ListN.{length, take, drop, length-append, length-take, length-drop, length-map}
use lib.Seq.{take_at, drop-append_seam}
use lib.Ieee.{Float, le}
use Rattle.refusals.specs.Number.{number_of}
use Rattle.refusals.specs.declared.Refusal.{Refusal}
use Rattle.net.specs.Net.{Net, Marking, pick, zero64}
use Rattle.rng.specs.State.{State as Generator}
use Rattle.rules.specs.Moves.{reading, initial_counts}
use Rattle.rules.specs.Step.{State, Answer, refused, given}
use Rattle.rules.specs.Run.{End, Run, Outcome, outcome, entries, beginning}
use Rattle.rules.specs.Moments.{start, tokens}
use Rattle.rules.specs.Shown.{shown_from, reached_from, last_of}
use Rattle.rules.specs.Carried.{Carried, unrecorded, run_onward, met_by, leaving, Onward, is_halted, filled_by, settled_in, answering, ended, play_on, begun}
use Rattle.rules.proofs.Play.{Played, alike, over, higher, play_within, Rises}
use Rattle.rules.proofs.PlayLaws.{add_done, alike_length}
use Rattle.rules.proofs.Recording.{met_length}
use Rattle.rules.proofs.Naming.{begun_length, begun_rises}
use Rattle.rules.proofs.PlayedOn.{steps_for, onward, played_on}
use Rattle.playing.specs.declared.PathEnd.{PathEnd}
use Rattle.playing.specs.declared.PathEnd.TheVariants.{Quiet, Spent, Reached, Halted, Refused}
use Rattle.playing.specs.declared.run.Walked.{Walked}
use Rattle.playing.specs.Cells.{table_with, reached_by, ShownBy}
use Rattle.ssa.specs.Path.{end_of}
use Rattle.playing.specs.Playing.{out_of, PlayedBy, refuses, ends}
use Rattle.ssa.specs.Told.{settled_at}
use Rattle.ssa.specs.Halted.{Standing, Call, standing, turned_down, played}
use Rattle.playing.proofs.Columns.{with_cleared, with_with, filled_with}
use Rattle.ssa.proofs.Answered.{NotRefused}

-- what is played on: at most so many steps from the state s, with the instants from number `next` on left, and this peak so far
abbrev pub ahead : Net → List Float → Bool → (steps next peak : ℕ) → State → Answer Played
ahead n xs halts steps next peak s = higher peak (play_within (out_of halts) 256 n (last_of xs) steps (drop next xs) s)

-- the answer of the path c, played on to an end that is no refusal, with this state and this table left
abbrev pub told_on : Carried → State → Walked → List Float → PathEnd → Call
told_on c left w table end =
    record {
      end = end_of end;
      settled = settled_at end w.next (length c.instants);
      state = record {
        now = left;
        steps = c.steps + w.steps;
        limit = c.limit;
        peak = w.peak;
        rounded = c.rounded + w.rounded;
        recorded = w.next;
      };
      table = table;
    }

-- the same run in other words
pub played_same : {whole whole' : Answer Played} {places from : ℕ} {xs t t' : List Float} {left : State} {w : Walked} {end : PathEnd} → whole ≡ whole'
    → PlayedBy whole places xs from t t' left w end → PlayedBy whole' places xs from t t' left w end
played_same {places = places} {from} {xs} {t} {t'} {left} {w} {end} e p = subst (λ (r : Answer Played). PlayedBy r places xs from t t' left w end) e p

-- ---- the rules' path that is left

-- where these counts were shown on the way
abbrev left_by : Carried → State → Walked → List Marking → Carried
left_by c left w sh =
    record {
      now = left;
      steps = c.steps + w.steps;
      limit = c.limit;
      peak = w.peak;
      rounded = c.rounded + w.rounded;
      instants = c.instants;
      recorded = c.recorded ++ sh;
    }

-- the columns that are written: these counts, and the last ones where the end fills the instants that are left
abbrev columns_of : Carried → State → Walked → End → List Marking → List Marking
columns_of c left w e sh = sh ++ alike left.counts (filled_by e (drop w.next c.instants))

-- `onward`, with the peak so far among what was played
abbrev onward_from : Carried → Answer Played → Answer Onward
onward_from c (refused k) = refused k
onward_from c (given r) =
    given (answering r.end (record {
      now = r.left;
      steps = c.steps + r.steps;
      limit = c.limit;
      peak = r.peak;
      rounded = c.rounded + r.rounded;
      instants = c.instants;
      recorded = c.recorded ++ take r.settled r.shown;
    }))

onward_from_lem : (c : Carried) (r : Answer Played) → onward c r ≡ onward_from c (higher c.peak r)
onward_from_lem c (refused k) = refl
onward_from_lem c (given r) = refl

abbrev settled_for : Carried → Answer End → ℕ
settled_for c (refused k) = length c.instants
settled_for c (given e) = settled_in e c

settles : (c : Carried) (end : PathEnd) → settled_for c (end_of end) ≡ settled_at end (length c.recorded) (length c.instants)
settles c Quiet = refl
settles c Spent = refl
settles c Reached = refl
settles c Halted = refl
settles c (Refused k) = refl

-- ---- played on from the path c, as the player has it: halts, steps, instants recorded, peak and state

module _ (n : Net) (c : Carried) (named : ℕ) (rise : Rises (unrecorded c)) {halts : Bool} {steps next peak : ℕ} {s : State}
    (h : halts ≡ ltb named (c.limit - c.steps)) (m : steps ≡ steps_for c named) (at : next ≡ length c.recorded) (most : peak ≡ c.peak)
    (now : s ≡ c.now) where
  on : play_on 256 n c named ≡ onward_from c (ahead n c.instants halts steps next peak s)
  on =
      played_on 256 n c named rise
      ∙ onward_from_lem c (play_within (out_of (ltb named (c.limit - c.steps))) 256 n (last_of c.instants) (steps_for c named) (unrecorded c) c.now)
      ∙ (λ i. onward_from c (ahead n c.instants (sym h i) (sym m i) (sym at i) (sym most i) (sym now i)))

  module _ (left : State) (w : Walked) (e : End) (sh : List Marking) (up_to : w.next ≡ next + length sh)
      (whole : ahead n c.instants halts steps next peak s
      ≡ add_done sh (length sh) w.peak w.rounded w.steps (given (over e left (drop w.next c.instants)))) where
    given_on : play_on 256 n c named ≡ given (answering e (left_by c left w sh))
    given_on =
        let more : List Marking = alike left.counts (drop w.next c.instants) in
        let a : w.steps + 0 ≡ w.steps = omega arith in
        let b : max w.peak 0 ≡ w.peak = omega arith in
        let d : w.rounded + 0 ≡ w.rounded = omega arith in
        let f : take (length sh + 0) (sh ++ more) ≡ sh = take_at sh more (length sh + 0) (omega arith) in
        on
        ∙ ap (onward_from c) whole
        ∙ (λ i. given (answering e (record {
          now = left;
          steps = c.steps + a i;
          limit = c.limit;
          peak = b i;
          rounded = c.rounded + d i;
          instants = c.instants;
          recorded = c.recorded ++ f i;
        })))

    recorded_long : length (c.recorded ++ sh) ≡ w.next
    recorded_long = omega (arith, length-append c.recorded sh)

    new_columns : drop next (answering e (left_by c left w sh)).shown ≡ columns_of c left w e sh
    new_columns =
        ap₂ (λ (k i : ℕ). drop k ((c.recorded ++ sh) ++ alike left.counts (filled_by e (drop i c.instants)))) at recorded_long
        ∙ ap (drop (length c.recorded)) (append_assoc c.recorded sh (alike left.counts (filled_by e (drop w.next c.instants))))
        ∙ drop-append_seam c.recorded (columns_of c left w e sh)

    told_on_lem : (end : PathEnd) → end_of end ≡ given e → (places : ℕ) (back : Standing) (t : List Float)
        → played places (length c.instants) next back t (play_on 256 n c named)
        ≡ told_on c left w (table_with places (length c.instants) next (columns_of c left w e sh) t) end
    told_on_lem end a places back t =
        let d : Carried = left_by c left w sh in
        let r : settled_in e d ≡ settled_at end w.next (length c.instants) =
        ap (settled_for d) (sym a) ∙ settles d end ∙ ap (λ (k : ℕ). settled_at end k (length c.instants)) recorded_long in
        ap (played places (length c.instants) next back t) given_on
        ∙ (λ i. record {
          end = sym a i;
          settled = r i;
          state = record {
            now = left;
            steps = c.steps + w.steps;
            limit = c.limit;
            peak = w.peak;
            rounded = c.rounded + w.rounded;
            recorded = recorded_long i;
          };
          table = table_with places (length c.instants) next (new_columns i) t;
        })

  -- refused on the way: the cells of the answer are cleared, and this state is given back
  pub refused_on : {places : ℕ} {t t' : List Float} {left : State} {w : Walked} {end : PathEnd} {k : Refusal} (back : Standing) → end ≡ Refused k
      → PlayedBy (ahead n c.instants halts steps next peak s) places c.instants next t t' left w end
      → played places (length c.instants) next back t (play_on 256 n c named) ≡ turned_down (number_of k) back t'
  refused_on {places} {t} {k = k} back r (refuses d p q) =
      let z : d ≡ k = cc in
      ap (played places (length c.instants) next back t) (on ∙ ap (onward_from c) p)
      ∙ ap₂ (λ (j : Refusal) (l : List Float). turned_down (number_of j) back l) z (sym q)
  refused_on back r (ends end e sh a b i x p) = let z : ◌≡◌ {A = ℕ} 0 1 = cc (ap end_of r) in absurd (omega arith)

  -- any other end
  pub played_to : {places : ℕ} {t t' : List Float} {left : State} {w : Walked} {end : PathEnd} (back : Standing) → NotRefused end
      → PlayedBy (ahead n c.instants halts steps next peak s) places c.instants next t t' left w end
      → played places (length c.instants) next back t (play_on 256 n c named) ≡ told_on c left w t' end
  played_to back r (refuses k p q) = absurd r
  played_to {places} {t} {left = left} {w = w} back r (ends end e sh a b i x p) =
      told_on_lem left w e sh b p end a places back t ∙ ap (λ (l : List Float). told_on c left w l end) (sym x)

-- ---- columns that the call records first

filled_few : (e : End) (xs : List Float) → length (filled_by e xs) ≤ length xs
filled_few e xs = go (is_halted e)
  where
    go : (b : Bool) → length (pick b [] xs) ≤ length xs
    go true = omega arith
    go false = omega arith

in_two : (places n : ℕ) (a b d : List Marking) (t : List Float) → length ((a ++ b) ++ d) ≤ n → places * n ≤ length t
    → table_with places n 0 ((a ++ b) ++ d) t ≡ table_with places n (length a) (drop (length a) ((a ++ b) ++ d)) (table_with places n 0 a t)
in_two places n a b d t fits room =
    let e : (a ++ b) ++ d ≡ a ++ (b ++ d) = append_assoc a b d in
    let z : 0 + length a ≡ length a = omega arith in
    ap (λ (l : List Marking). table_with places n 0 l t) e
    ∙ sym (with_with places n 0 a (b ++ d) t (omega (arith, ap length e)) room)
    ∙ ap₂ (λ (k : ℕ) (l : List Marking). table_with places n k l (table_with places n 0 a t)) z
    (sym (ap (drop (length a)) e ∙ drop-append_seam a (b ++ d)))

module _ (places : ℕ) (n : Net) (c : Carried) (named : ℕ) (back : Standing) (t : List Float) (room : places * length c.instants ≤ length t)
    (short : length c.recorded ≤ length c.instants) where
  -- a call from the first instant on is one from the first unrecorded on, in the table with the recorded columns
  pub in_front_lem : played places (length c.instants) 0 back t (play_on 256 n c named)
      ≡ played places (length c.instants) (length c.recorded) back (table_with places (length c.instants) 0 c.recorded t)
      (play_on 256 n c named)
  in_front_lem = go (outcome r)
    where
      r : Run
      r = run_onward 256 n c named

      go : (o : Answer Outcome) → played places (length c.instants) 0 back t (ended n c r o)
          ≡ played places (length c.instants) (length c.recorded) back (table_with places (length c.instants) 0 c.recorded t)
          (ended n c r o)
      go (refused k) = ap (turned_down k back) (sym (with_cleared places (length c.instants) 0 c.recorded t room (omega arith)))
      go (given o) =
          let met : List Float = met_by (entries r) (unrecorded c) in
          let shown : List Marking = map (shown_from n c.now.counts (entries r)) met in
          let rest : List Float = drop (length (c.recorded ++ shown)) c.instants in
          let fill : List Marking = alike o.left.counts (filled_by o.end rest) in
          let d : Carried = leaving n c r o.left in
          let fits : length ((c.recorded ++ shown) ++ fill) ≤ length c.instants =
          omega (
            arith,
            length-append (c.recorded ++ shown) fill,
            length-append c.recorded shown,
            length-map met (shown_from n c.now.counts (entries r)),
            length-take (reached_from (entries r) (unrecorded c)) (unrecorded c),
            length-drop (length c.recorded) c.instants,
            alike_length o.left.counts (filled_by o.end rest),
            filled_few o.end rest,
            length-drop (length (c.recorded ++ shown)) c.instants,
          ) in
          ap (λ (l : List Float). record { end = given o.end; settled = settled_in o.end d; state = standing d; table = l })
          (in_two places (length c.instants) c.recorded shown fill t fits room)

-- ---- from the beginning

first_reached : (t : Float) (xs : List Float) → reached_from (reading t ∷ []) xs ≡ reached_by t xs
first_reached t [] = refl
first_reached t (x ∷ xs) = ap₂ (λ (b : Bool) (k : ℕ). pick b (suc k) 0) (or-false (le x t)) (first_reached t xs)

-- the first instants show the initial counts, and the player goes on from there
module _ (places : ℕ) (n : Net) (g : Generator) (xs : List Float) (limit named : ℕ) (rise : Rises xs)
    {m : Marking} {next peak : ℕ} {s : State} {t t₁ : List Float} (same : m ≡ initial_counts n) (shows : ShownBy places xs zero64 m 0 next t t₁)
    (room : places * length xs ≤ length t) (most : peak ≡ tokens (start n)) (now : s ≡ beginning n g) {halts : Bool} {steps : ℕ}
    (h : halts ≡ ltb named limit) (k : steps ≡ min named limit) where
  begun_next : next ≡ length (begun n g xs limit).recorded
  begun_next = shows.up_to ∙ zero-add (reached_by zero64 xs) ∙ sym (first_reached zero64 xs) ∙ sym (begun_length n g xs limit rise)

  begun_short : length (begun n g xs limit).recorded ≤ length xs
  begun_short =
      omega (arith, begun_length n g xs limit rise, met_length (reading zero64 ∷ []) xs, length-take (reached_from (reading zero64 ∷ []) xs) xs)

  begun_table : t₁ ≡ table_with places (length xs) 0 (begun n g xs limit).recorded t
  begun_table =
      let met : List Float = met_by (reading zero64 ∷ []) xs in
      filled_with shows.cells (omega arith) (omega (arith, begun_next, begun_short)) room met
      (omega (arith, met_length (reading zero64 ∷ []) xs, begun_next, begun_length n g xs limit rise))
      ∙ ap (λ (l : Marking). table_with places (length xs) 0 (alike l met) t) same

  so_halts : halts ≡ ltb named (limit - 0)
  so_halts = let z : limit ≡ limit - 0 = omega arith in h ∙ ap (ltb named) z

  so_many : steps ≡ min named (limit - 0)
  so_many = let z : limit ≡ limit - 0 = omega arith in k ∙ ap (min named) z

  from_first : (back : Standing) → played places (length xs) 0 back t (play_on 256 n (begun n g xs limit) named)
      ≡ played places (length xs) next back t₁ (play_on 256 n (begun n g xs limit) named)
  from_first back =
      in_front_lem places n (begun n g xs limit) named back t room begun_short
      ∙ (λ i. played places (length xs) (sym begun_next i) back (sym begun_table i) (play_on 256 n (begun n g xs limit) named))

  pub refused_first : {t' : List Float} {left : State} {w : Walked} {end : PathEnd} {d : Refusal} (back : Standing) → end ≡ Refused d
      → PlayedBy (ahead n xs halts steps next peak s) places xs next t₁ t' left w end
      → played places (length xs) 0 back t (play_on 256 n (begun n g xs limit) named) ≡ turned_down (number_of d) back t'
  refused_first back r p =
      from_first back ∙ refused_on n (begun n g xs limit) named (begun_rises n g xs limit rise) so_halts so_many begun_next most now back r p

  pub played_first : {t' : List Float} {left : State} {w : Walked} {end : PathEnd} (back : Standing) → NotRefused end
      → PlayedBy (ahead n xs halts steps next peak s) places xs next t₁ t' left w end
      → played places (length xs) 0 back t (play_on 256 n (begun n g xs limit) named) ≡ told_on (begun n g xs limit) left w t' end
  played_first back r p =
      from_first back ∙ played_to n (begun n g xs limit) named (begun_rises n g xs limit rise) so_halts so_many begun_next most now back r p
